-- Worked orders, computed from the definitions: the bytes of a text, and what it says. Assumes nothing.
use Rattle.std.specs.Prelude.{ℕ, ◌≡◌, refl, Bool, true, false, List, [], ◌∷◌, ◌++◌, Option, Some, None}
use Rattle.text.specs.Budget.{is_white, is_digit, body_of, digits_of, rest_of, is_blank, value_from, limited, said_by, budget_in, steps_of, budget_of}
use Rattle.marks.specs.Order.{trimmed, longer, lines_in, first_of, further_of, is_said, all_said, numbers_of, budget_said, marks_said, is_readable}

-- what an order says: its budget, its marks, and whether all its marks are read
abbrev Saying : List ℕ → Option ℕ → List ℕ → Bool → Type 0
Saying order budget marks readable = (budget_said order ≡ budget) × (marks_said order ≡ marks) × (is_readable order ≡ readable)

-- a line end; 70
abbrev n : ℕ
n = 10

abbrev seventy : List ℕ
seventy = 55 ∷ 48 ∷ []

pub orders-read :
    -- 70, 1, 5: a budget and two marks, with a line end behind the last mark and without; with carriage returns and a blank line behind all
    Saying (seventy ++ (n ∷ 49 ∷ n ∷ 53 ∷ n ∷ [])) (Some 70) (1 ∷ 5 ∷ []) true ×
    Saying (seventy ++ (n ∷ 49 ∷ n ∷ 53 ∷ [])) (Some 70) (1 ∷ 5 ∷ []) true ×
    Saying (seventy ++ (13 ∷ n ∷ 49 ∷ 13 ∷ n ∷ 53 ∷ 13 ∷ n ∷ 32 ∷ 13 ∷ n ∷ [])) (Some 70) (1 ∷ 5 ∷ []) true ×
    -- no marks; nothing at all; a first line that says no budget, and a mark
    Saying (seventy ++ (n ∷ [])) (Some 70) [] true ×
    Saying [] None [] true ×
    Saying (120 ∷ n ∷ 49 ∷ []) None (1 ∷ []) true ×
    -- a blank line before a mark; a mark of 4,294,967,296: not all is read
    Saying (seventy ++ (n ∷ 49 ∷ n ∷ n ∷ 53 ∷ n ∷ [])) (Some 70) (1 ∷ 0 ∷ 5 ∷ []) false ×
    Saying (seventy ++ (n ∷ 52 ∷ 50 ∷ 57 ∷ 52 ∷ 57 ∷ 54 ∷ 55 ∷ 50 ∷ 57 ∷ 54 ∷ [])) (Some 70) (0 ∷ []) false
unfolding budget_said marks_said is_readable trimmed longer lines_in first_of further_of is_said all_said numbers_of
    is_white is_digit body_of digits_of rest_of is_blank value_from limited said_by budget_in steps_of budget_of
orders-read = (
  (refl, refl, refl),
  (refl, refl, refl),
  (refl, refl, refl),
  (refl, refl, refl),
  (refl, refl, refl),
  (refl, refl, refl),
  (refl, refl, refl),
  (refl, refl, refl),
)
