-- Past the trace's end there is no record. Assumes nothing.
use Rattle.std.proofs.Common.{arith, ◌∙◌, ⊎_elim}
use Rattle.trace.proofs.Entries.{past_end}
use Rattle.trace.proofs.next_record.Goals as goal

pub returns-in_err-get : goal.returns-in_err-get
returns-in_err-get c =
    c.from_residual.ensures ∙
    past_end c.args.trace.now c.args.cursor (⊎_elim (λ z. omega (arith, z)) (λ z. omega (arith, z)) c.in_err-get.ensures.lookup.0)
