-- Laws of the call's answer: refused by its marks, refused by its log, or counted. Assumes nothing.
use Prim.Native.Nat.{ℕ}
use mathlib.Core.Path.{◌≡◌}
use mathlib.Core.Bool.{true, false, and-false}
use mathlib.Core.List.{List}
use Rattle.numbers.specs.Numbers.{litres_refusal}
use Rattle.litres.specs.Log.{is_log}
use Rattle.litres.specs.Farms.{are_marks, litres_in}
use Rattle.litres.specs.Lines.{counted_of, no_lines, lines_of}

pub by_marks : (log marks : List ℕ) → are_marks marks ≡ false → lines_of log marks ≡ no_lines litres_refusal
unfolding lines_of
by_marks log marks h = simp h

pub by_log : (log marks : List ℕ) → is_log log ≡ false → lines_of log marks ≡ no_lines litres_refusal
unfolding lines_of
by_log log marks h = simp (h, and-false)

pub accepted : (log marks : List ℕ) → are_marks marks ≡ true → is_log log ≡ true → lines_of log marks ≡ counted_of marks (litres_in log)
unfolding lines_of
accepted log marks h g = simp (h, g)
