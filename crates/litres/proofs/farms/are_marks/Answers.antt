-- The marks rise where each is before the next. Assumes nothing.
use Rattle.std.proofs.Common.{rules, tests, ◌∙◌, ltb, sym, le-leb}
use Rattle.std.proofs.lemmas.List.Sorted.{answers_always}
use Rattle.litres.specs.Farms.{are_marks}
use Rattle.litres.proofs.Farming.{rising_answer}
use Rattle.litres.proofs.farms.are_marks.Goals as goal

pub returns-then-marks-le-MOST_FARMS : goal.returns-then-marks-le-MOST_FARMS
unfolding are_marks
returns-then-marks-le-MOST_FARMS c =
    let few = le-leb _ _ c.if-marks-le-MOST_FARMS.true in
    rising_answer c.args.marks.now _ (c.is_sorted_by.ensures.cases ltb (answers_always _ _ _ (λ f a r g called. search (rules, tests)))) ∙ sym (simp few)
