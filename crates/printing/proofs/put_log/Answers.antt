-- `put_log`: no record, a record more, and the end of the log.
use Rattle.std.proofs.Common.{arith, ◌∙◌, ap, length, take, length-append}
use Rattle.std.specs.Slice.Iter.{chunks_exact_rest, chunks_exact_size}
use Rattle.printing.specs.Printed.{log_lines}
use Rattle.printing.proofs.Printing.{goes_on, ends}
use Rattle.printing.proofs.put_log.Goals as goal

pub loop-record-init : goal.loop-record-init
loop-record-init c =
    let made = c.into_iter-record-iterator.ensures.into_iter_gives in
    let all = ap chunks_exact_rest made ∙ c.chunks_exact-record-items.ensures.rest in
    record {
      sized = ap chunks_exact_size made ∙ c.chunks_exact-record-items.ensures.size;
      room = omega (arith, ap length all);
      text = ap log_lines all;
    }

pub put_record-to-requires : goal.put_record-to-requires
put_record-to-requires c =
    let o = c.loop-record in
    let step = c.in-Some.ensures.steps in
    record {
      bytes_len = step.1.1 ∙ o.invariant.sized;
      to_in_bounds = omega (arith, step.1.1, o.invariant.sized, ap length step.1.0, length-append c.in-Some.record.now (chunks_exact_rest c.next.new.self));
    }

pub loop-record-preserved : goal.loop-record-preserved
loop-record-preserved c =
    let o = c.loop-record in
    let step = c.in-Some.ensures.steps in
    let rest = chunks_exact_rest c.next.new.self in
    record {
      sized = step.0 ∙ o.invariant.sized;
      room = omega (arith, step.1.1, o.invariant.sized, ap length step.1.0, length-append c.in-Some.record.now rest, c.put_record-to.ensures.1);
      text = goes_on (take o.to o.out) _ (chunks_exact_rest o.record-iterator) c.in-Some.record.now rest _ step.1.0 (step.1.1 ∙ o.invariant.sized) c.put_record-to.ensures.0 o.invariant.text;
    }

pub returns : goal.returns
returns c =
    let o = c.loop-record in
    let ended = c.in-None.ensures.steps in
    (ends (take o.to o.out) (chunks_exact_rest o.record-iterator) _ (omega arith) o.invariant.text, omega arith)
