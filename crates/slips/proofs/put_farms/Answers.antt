-- `put_farms`: a farm more, and behind the last.
use Rattle.std.proofs.Common.{arith, take}
use Rattle.slips.proofs.Slips.{goes_on, ends}
use Rattle.slips.proofs.put_farms.Goals as goal

pub loop-i-preserved : goal.loop-i-preserved
loop-i-preserved c =
    let o = c.loop-i in
    let a = c.args in
    record {
      room = omega (arith, c.line-end.ensures.end);
      text = goes_on a.marks.now a.farm.now (take o.end o.out) _ _ o.i c.loop-i-test.true (omega arith) c.line-end.ensures.text o.invariant.text;
    }

pub returns : goal.returns
returns c =
    let o = c.loop-i in
    let a = c.args in
    (ends a.marks.now a.farm.now (take o.end o.out) _ o.i c.loop-i-test.false o.invariant.text, omega arith)
