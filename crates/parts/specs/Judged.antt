-- What the function that tests answers, beside the number of Parts.antt. A helper.
-- Assumes nothing.
use Rattle.std.specs.Prelude.{ℕ, Result, Ok, Err}
use Rattle.numbers.specs.Numbers.{done, heads_refusal, turn_refusal}
use Rattle.parts.specs.declared.Unfit.{Unfit}
use Rattle.parts.specs.declared.Unfit.TheVariants.{Heads, Turn}

abbrev pub number_of : Unfit → ℕ
number_of Heads = heads_refusal
number_of Turn = turn_refusal

-- the number that a call answers
abbrev pub number_in : {A : Type 0} → Result A Unfit → ℕ
number_in (Ok x) = done
number_in (Err e) = number_of e
