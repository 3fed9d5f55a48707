-- Document 02, No. 6: what the call answers. "It refuses with 16 marks that don't rise, that number more than 64, or a log that isn't whole records .." Else it is
-- done, with "unplaced" and a line for each farm; past the last farm the lines are 0. Assumes nothing.
use Rattle.std.specs.Prelude.{ℕ, zero, suc, cond, ◌&&◌, List, [], ◌∷◌, replicate}
use Rattle.numbers.specs.Numbers.{done, litres_refusal}
use Rattle.litres.specs.declared.Lines.{Lines}
use Rattle.litres.specs.Log.{is_log}
use Rattle.litres.specs.Farms.{most_farms, are_marks, litres_in, line_of}

-- n lines from farm k on
unfoldable pub lines_from : List ℕ → List ℕ → ℕ → ℕ → List ℕ
unfolding line_of
lines_from marks ts k zero = []
lines_from marks ts k (suc n) = line_of marks ts k ∷ lines_from marks ts (suc k) n

unfoldable pub counted_of : List ℕ → List ℕ → Lines
unfolding line_of lines_from
counted_of marks ts = record { number = done; unplaced = line_of marks ts 0; farm = lines_from marks ts 1 most_farms }

-- a refusal answers no litres
abbrev pub no_lines : ℕ → Lines
no_lines number = record { number = number; unplaced = 0; farm = replicate most_farms 0 }

-- the call
unfoldable pub lines_of : List ℕ → List ℕ → Lines
unfolding are_marks is_log litres_in counted_of
lines_of log marks = cond (are_marks marks && is_log log) (counted_of marks (litres_in log)) (no_lines litres_refusal)
