-- `read`: before the further lines, one more, and behind the last.
use Rattle.std.proofs.Common.{ℕ, List, ◌<◌, ◌∙◌, ap, rules, tests, arith, eqb, length, map, take, Bor}
use Rattle.std.proofs.lemmas.Iterator.Splits.{YieldsList-from_slice_split}
use Rattle.std.proofs.lemmas.List.{map_push}
use Rattle.std.proofs.lemmas.List.Splits.{length-slice_split}
use Rattle.std.specs.List.{slice_split}
use Rattle.io.proofs.Counting.{prefix_len_of_le}
use Rattle.marks.specs.Order.{line_end, all_said, numbers_of}
use Rattle.marks.specs.Lines.{room}
use Rattle.marks.proofs.Passing.{all_parts, said_on, kept_on, budget_read, marks_read, all_read}
use Rattle.marks.proofs.read.Goals as goal

pub loop-line-init : goal.loop-line-init
unfolding all_said numbers_of
loop-line-init c = search rules

pub loop-line-preserved : goal.loop-line-preserved
loop-line-preserved c =
    let o = c.loop-line in
    let line = c.in-Some.line.now in
    let so_far = map {A = Bor (List ℕ)} (λ x. x.now) o.yielded in
    let more = map_push {X = Bor (List ℕ)} (λ x. x.now) o.yielded c.in-Some.line in
    let mark = c.said_by-mark in
    record {
      count = c.keep-count.ensures.0;
      long = search rules;
      readable = rw (more, c.is_some-readable.ensures) (said_on so_far line mark.result mark.ensures _ o.readable o.invariant.readable);
      marks = rw more (kept_on so_far line mark.result mark.ensures _ _ c.steps.result c.steps.ensures o.invariant.marks c.keep-count.ensures.1);
    }

pub returns : goal.returns
returns c =
    let o = c.loop-line in
    let order = c.args.order.now in
    let text = take c.trimmed_length.result order in
    let some : 0 < length (slice_split (λ b. eqb b line_end) text) = omega (arith, length-slice_split (λ b. eqb b line_end) text) in
    let parts =
    all_parts
    (YieldsList-from_slice_split _ (λ b. eqb b line_end) text c.split-lines.ensures.rest c.split-lines.ensures.done c.split-lines.ensures.closure (λ x b q k. search (rules, tests)))
    some c.next.result _ c.next.ensures.steps c.into_iter-line-iterator.ensures.into_iter_gives o.yielded c.loop-line.yielded_by _ c.in-None.is c.next-in-loop-line.ensures.steps
    c.unwrap_or.result c.unwrap_or.ensures in
    let trimmed = c.trimmed_length.ensures.0 in
    record {
      budget = c.said_by-budget.ensures ∙ budget_read order text _ _ trimmed parts;
      readable = o.invariant.readable ∙ all_read order text _ _ trimmed parts;
      counts = prefix_len_of_le _ _ (omega (arith, o.invariant.count, o.invariant.long));
      marks = o.invariant.marks ∙ ap (take room) (marks_read order text _ _ trimmed parts);
    }
