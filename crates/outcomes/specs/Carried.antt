-- What a skip passes, as the code carries it: one number, with a number of its own for an undefined code. A helper; `Skipped` (Outcomes.antt) is what it says.
-- Assumes nothing.
use Rattle.std.specs.Prelude.{ℕ, cond, eqb}
use Rattle.outcomes.specs.Outcomes.{Skipped, bytes, undefined}

abbrev pub undefined_skip : ℕ
undefined_skip = 255

abbrev pub skipped_as : ℕ → Skipped
skipped_as s = cond (eqb s undefined_skip) undefined (bytes s)
