-- `budget::absorb`: a byte more, and the end of the piece.
use Rattle.std.proofs.Common.{◌∙◌, sym}
use Rattle.text.proofs.Reading.{absorbed_more, absorbed_end}
use Rattle.text.proofs.budget.absorb.Goals as goal

pub loop-b-preserved : goal.loop-b-preserved
loop-b-preserved c =
    let more = absorbed_more c.loop-b.seen c.args.piece.now c.loop-b.b-index c.loop-b-test.true in
    rw c.read_on-seen.ensures (sym more ∙ c.loop-b.invariant)

pub returns : goal.returns
returns c = absorbed_end c.loop-b.seen c.args.piece.now c.loop-b.b-index c.loop-b-test.false ∙ c.loop-b.invariant
