-- The marks from `before` on that are not behind the clock. Assumes nothing.
use Rattle.std.proofs.Common.{ℕ, ◌+◌, ◌-◌, ◌≡◌, ◌∙◌, ap, rules, tests, arith, leb, length, take, drop, take_all, length-drop}
use Rattle.std.specs.Slice.Iter.{iter_rest}
use Rattle.std.proofs.lemmas.Iterator.{YieldsList-from_slice}
use Rattle.std.proofs.lemmas.Iterator.Consumers.{count_from_yields_List}
use Rattle.std.proofs.lemmas.Iterator.Search.{YieldsList-from_take_while}
use Rattle.std.proofs.lemmas.List.Folds.{length-prefix_len}
use Rattle.litres.proofs.Farming.{farm_prefix}
use Rattle.litres.proofs.farms.reached.Goals as goal

pub returns : goal.returns
returns c =
    let marks = c.args.marks.now in
    let ahead = drop c.args.before marks in
    let whole : take (length marks - c.args.before) ahead ≡ ahead = take_all _ ahead (omega (arith, length-drop c.args.before marks)) in
    let reaches = λ (m : ℕ). leb m c.args.clock in
    ap (λ (n : ℕ). c.args.before + n) (
    count_from_yields_List c.take_while.result _ c.count.ensures.ran
    (YieldsList-from_take_while _ reaches (YieldsList-from_slice ahead (ap iter_rest c.take_while.ensures.source ∙ c.iter.ensures.rest ∙ whole))
    c.take_while.ensures.closure c.take_while.ensures.done (λ x b q k. search (rules, tests)))
    ∙ length-prefix_len reaches ahead
    ∙ farm_prefix ahead c.args.clock
    )
