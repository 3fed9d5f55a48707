-- `tidy::writer::put_part` meets its contract. Assumes nothing.
use Rattle.std.proofs.Common.{◌≡◌, ◌<◌, ◌+◌, ◌-◌, ◌∙◌, ap, arith, length, take, drop, set, get_or}
use Rattle.std.proofs.lemmas.List.{get_or-take, get_or-drop, length-take-le, length-drop}
use Rattle.tidy.proofs.Putting.{part_more}
use Rattle.tidy.proofs.writer.put_part.Goals as goal

pub loop-i-preserved : goal.loop-i-preserved
loop-i-preserved c =
    let a = c.args in
    let i = c.loop-i.i in
    let n = a.end - a.from in
    let rest = drop a.from a.trace.now in
    let whole : length (take n rest) ≡ n = length-take-le n rest (omega (arith, length-drop a.from a.trace.now)) in
    let here : i < n = omega (arith, whole, c.loop-i-test.true) in
    let byte : get_or (take n rest) i 0 ≡ get_or a.trace.now (a.from + i) 0 = get_or-take n rest i 0 here ∙ get_or-drop a.from a.trace.now i 0 in
    ap (λ x. set c.loop-i.out (a.to + i) x) byte ∙
    ap (λ l. set l (a.to + i) (get_or a.trace.now (a.from + i) 0)) c.loop-i.invariant ∙
    part_more a.out.now a.trace.now a.to a.from i (omega (arith, here))
