-- `decimals::line`: no numbers, a number more before the last, and the last.
use Rattle.std.proofs.Common.{arith, take}
use Rattle.decimals.proofs.Decimals.{nothing, goes_on, ends}
use Rattle.decimals.proofs.line.Goals as goal

pub returns-in_default-clause-text : goal.returns-in_default-clause-text
returns-in_default-clause-text c = nothing _ c.args.numbers.now c.in_default.ensures.cases

pub loop-number-preserved : goal.loop-number-preserved
loop-number-preserved c =
    let o = c.loop-number in
    record {
      few = omega (arith, c.put-end.ensures.1);
      text = goes_on (take o.end o.out) _ _ c.in-Some.before.now o.number-index c.in-Some.last.now c.loop-number-test.true c.put-end.ensures.0 o.invariant.text;
    }

pub returns-clause-text : goal.returns-clause-text
returns-clause-text c =
    let o = c.loop-number in
    ends (take o.end o.out) _ _ c.in-Some.before.now o.number-index c.in-Some.last.now c.loop-number-test.false c.put.ensures.0 o.invariant.text
