-- The loop's start, a record more, and the count at its end. Assumes nothing.
use Rattle.std.proofs.Common.{ℕ, ◌+◌, ◌-◌, ◌≤◌, arith, ◌∙◌, refl, sym, ap, subst, length, get_or, ◌≡◌, length-append, List}
use Rattle.std.specs.Slice.Iter.{chunks_exact_rest, chunks_exact_size}
use Rattle.litres.specs.Farms.{most_farms, litres_from}
use Rattle.litres.specs.Log.{changes_of}
use Rattle.litres.specs.Tally.{Tally, none_yet, tallied_by}
use Rattle.litres.proofs.Records.{log_sound, changes_met}
use Rattle.litres.proofs.Farming.{Behind, behind_start, behind_few, farm_few, marks_few}
use Rattle.litres.proofs.Counting.{started, none_counted, few_added, added_long, farms_passed, farms_behind, counted_further, counted_end}
use Rattle.litres.proofs.counted.Goals as goal

pub loop-record-init : goal.loop-record-init
loop-record-init c =
    let a = c.args in
    let made = c.into_iter-record-iterator.ensures.into_iter_gives in
    let all = ap chunks_exact_rest made ∙ c.chunks_exact-record-items.ensures.rest in
    record {
      sized = ap chunks_exact_size made ∙ c.chunks_exact-record-items.ensures.size;
      lines = refl;
      few_unplaced = omega (arith, ap length all);
      few = λ i. omega (arith, ap length all, none_counted most_farms i);
      behind = subst (λ (log : List ℕ). Behind a.marks.now 0 (changes_of log)) (sym all) (behind_start a.marks.now _ (log_sound a.log.now c.requires.log_value));
      total = ap (λ (log : List ℕ). tallied_by a.marks.now (litres_from 0 (changes_of log)) none_yet) all ∙ started a.marks.now a.log.now;
    }

pub reached-line-requires : goal.reached-line-requires
reached-line-requires c = behind_few _ _ _ c.loop-record.invariant.behind

pub add-unplaced-requires : goal.add-unplaced-requires
add-unplaced-requires c =
    let a = c.args in
    let o = c.loop-record in
    let step = c.in-Some.ensures.steps in
    let met = changes_met _ c.in-Some.record.now _ c.change_in-c.result step.1.0 (step.1.1 ∙ o.invariant.sized) c.change_in-c.ensures in
    let passed = farms_passed a.marks.now _ _ o.line c.reached-line.result c.change_in-c.result met o.invariant.behind c.reached-line.ensures in (
      omega (arith, passed, farm_few a.marks.now c.change_in-c.result.clock, marks_few a.marks.now c.requires.marks_value),
      omega (arith, ap length step.1.0, length-append c.in-Some.record.now (chunks_exact_rest c.next.new.self)),
      omega (arith, o.invariant.few (c.reached-line.result - 1), ap length step.1.0, length-append c.in-Some.record.now (chunks_exact_rest c.next.new.self)),
    )

pub loop-record-preserved : goal.loop-record-preserved
loop-record-preserved c =
    let a = c.args in
    let o = c.loop-record in
    let step = c.in-Some.ensures.steps in
    let left = chunks_exact_rest o.record-iterator in
    let rest = chunks_exact_rest c.next.new.self in
    let seen = c.change_in-c.result in
    let n = c.reached-line.result in
    let litre = c.is_litre in
    let added = c.add-unplaced in
    let t : Tally = record { unplaced = o.unplaced; farm = o.farm } in
    let met = changes_met left c.in-Some.record.now rest seen step.1.0 (step.1.1 ∙ o.invariant.sized) c.change_in-c.ensures in
    let passed = farms_passed a.marks.now left rest o.line n seen met o.invariant.behind c.reached-line.ensures in
    let shorter : length rest + 6 ≡ length left = omega (arith, step.1.1, o.invariant.sized, ap length step.1.0, length-append c.in-Some.record.now rest) in
    let few =
    subst (λ (u : Tally). (u.unplaced + length rest ≤ length a.log.now) × ((i : ℕ) → get_or u.farm i 0 + length rest ≤ length a.log.now)) (sym added.ensures)
    (few_added litre.result n (length left) (length rest) (length a.log.now) t (omega arith) o.invariant.few_unplaced o.invariant.few)
    in record {
      sized = step.0 ∙ o.invariant.sized;
      lines = ap (λ (u : Tally). length u.farm) added.ensures ∙ added_long litre.result n t ∙ o.invariant.lines;
      few_unplaced = few.0;
      few = few.1;
      behind = farms_behind a.marks.now left rest o.line n seen met o.invariant.behind passed;
      total = counted_further a.marks.now left rest o.was c.bit_after-was.result n litre.result seen t _ _ met passed
          litre.ensures c.bit_after-was.ensures added.ensures o.invariant.total;
    }

pub returns : goal.returns
returns c =
    let o = c.loop-record in
    let ended = c.in-None.ensures.steps in
    counted_end c.args.marks.now c.args.log.now (chunks_exact_rest o.record-iterator) o.was (record { unplaced = o.unplaced; farm = o.farm }) (omega arith) o.invariant.total
