-- A bound that the code of a step rests on: an outcome takes few cycles. A helper.
-- Assumes nothing.
use Rattle.std.specs.Prelude.{◌<◌}
use Rattle.outcomes.specs.declared.Outcome.{Outcome}
use Rattle.outcomes.specs.declared.Outcome.TheVariants.{Stops, Does}
use Rattle.elapse.specs.Bounds.{most_cycles}

abbrev pub Brief : Outcome → Type 0
Brief (Stops k p) = Unit {0}
Brief (Does e d t) = t < most_cycles
