-- What the program `slip` reads on standard input, an order: document 01's budget, and document 02, No. 6: "a list of farm marks (clock where each farm begins
-- ..)". White space at the end is taken off, and the rest falls into lines. The first says the budget, and each further line a mark, by document 01's rule for a
-- budget. A further line that says no number makes the marks unreadable, and so does a blank one: with a mark that is lost, each later farm's litres would be its
-- neighbour's. Assumes nothing.
use Rattle.std.specs.Prelude.{ℕ, Bool, true, false, cond, ◌&&◌, List, [], ◌∷◌, eqb, leb, length, Option, Some, None}
use Rattle.text.specs.Budget.{is_blank, budget_in, budget_of}

-- a text without the white space that it ends with
unfoldable pub trimmed : List ℕ → List ℕ
trimmed [] = []
trimmed (b ∷ l) = cond (is_blank (b ∷ l)) [] (b ∷ trimmed l)

abbrev pub line_end : ℕ
line_end = 10

-- lines of which the first has one more byte before it
unfoldable pub longer : ℕ → List (List ℕ) → List (List ℕ)
longer b [] = (b ∷ []) ∷ []
longer b (line ∷ lines) = (b ∷ line) ∷ lines

-- the lines of a text: between two stands a line end
unfoldable pub lines_in : List ℕ → List (List ℕ)
lines_in [] = [] ∷ []
lines_in (b ∷ l) = cond (eqb b line_end) ([] ∷ lines_in l) (longer b (lines_in l))

-- the first line, and the further ones
unfoldable pub first_of : List (List ℕ) → List ℕ
first_of [] = []
first_of (line ∷ lines) = line

unfoldable pub further_of : List (List ℕ) → List (List ℕ)
further_of [] = []
further_of (line ∷ lines) = lines

-- whether a number is said, and whether by each line
unfoldable pub is_said : Option ℕ → Bool
is_said (Some n) = true
is_said None = false

unfoldable pub all_said : List (List ℕ) → Bool
all_said [] = true
all_said (line ∷ lines) = is_said (budget_in line) && all_said lines

-- the number of each line; where none is said it counts as 0
unfoldable pub numbers_of : List (List ℕ) → List ℕ
numbers_of [] = []
numbers_of (line ∷ lines) = budget_of line ∷ numbers_of lines

-- the budget that an order says, and its marks
unfoldable pub budget_said : List ℕ → Option ℕ
budget_said order = budget_in (first_of (lines_in (trimmed order)))

unfoldable pub marks_said : List ℕ → List ℕ
marks_said order = numbers_of (further_of (lines_in (trimmed order)))

-- the longest order that is read
abbrev pub longest_order : ℕ
longest_order = 65536

-- whether all its marks are read
unfoldable pub is_readable : List ℕ → Bool
is_readable order = leb (length order) longest_order && all_said (further_of (lines_in (trimmed order)))
