-- `slip`: a round's lines, and their text.
use native.Mathlib.Omega.{arith}
use mathlib.Core.Path.{ap}
use Rattle.litres.specs.declared.Lines.{Lines}
use Rattle.slips.proofs.Slips.{collects, put_together, fits}
use Rattle.slips.proofs.slip.Goals as goal

pub put_slip-length-requires : goal.put_slip-length-requires
put_slip-length-requires c =
    fits _ c.args.marks.now c.litres-lines.result (omega (arith, c.written-n.ensures.1)) c.litres-lines.ensures

pub returns-clause-number_value : goal.returns-clause-number_value
returns-clause-number_value c =
    let a = c.args in
    let run = c.run-ending in
    ap (λ (x : Lines). x.number)
    (collects a.rom.now a.trace.now a.marks.now a.budget run.result _ _ c.litres-lines.result run.ensures.0 run.ensures.1 c.written-n.ensures.0 c.litres-lines.ensures)

pub returns-clause-out_after : goal.returns-clause-out_after
returns-clause-out_after c =
    let a = c.args in
    let run = c.run-ending in
    let l = c.litres-lines in
    let lines = collects a.rom.now a.trace.now a.marks.now a.budget run.result _ _ l.result run.ensures.0 run.ensures.1 c.written-n.ensures.0 l.ensures in
    put_together a.rom.now a.trace.now a.marks.now a.budget run.result l.result _ run.ensures.0 lines c.put_slip-length.ensures.0
