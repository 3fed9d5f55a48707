-- Document 01, "Cases shown of the definitions", last section: the program's decimal budget, and "a budget that isn't one counts as 0". A budget is
-- one or more decimal digits in ASCII whose value is at most 4,294,967,295, with white space around it or not, in a text of any length.
-- Assumes nothing.
use Rattle.std.specs.Prelude.{ℕ, zero, suc, ◌+◌, ◌*◌, ◌%◌, ◌≡◌, refl, Bool, true, cond, ◌&&◌, ◌||◌, List, [], ◌∷◌, ◌++◌, replicate, eqb, leb, Option, Some, None}

-- white space: a space, or a tab, line feed, vertical tab, form feed or carriage return
unfoldable pub is_white : ℕ → Bool
is_white b = eqb b 32 || (leb 9 b && leb b 13)

-- the ASCII digits `0` to `9`
unfoldable pub is_digit : ℕ → Bool
is_digit b = leb 48 b && leb b 57

-- a text without the white space that it starts with
unfoldable pub body_of : List ℕ → List ℕ
body_of [] = []
body_of (b ∷ l) = cond (is_white b) (body_of l) (b ∷ l)

-- the digits that a text starts with, and what stands behind them
unfoldable pub digits_of : List ℕ → List ℕ
digits_of [] = []
digits_of (b ∷ l) = cond (is_digit b) (b ∷ digits_of l) []

unfoldable pub rest_of : List ℕ → List ℕ
rest_of [] = []
rest_of (b ∷ l) = cond (is_digit b) (rest_of l) (b ∷ l)

-- a text of white space alone
unfoldable pub is_blank : List ℕ → Bool
is_blank [] = true
is_blank (b ∷ l) = is_white b && is_blank l

-- the number that digits make behind a number v; the low four bits of an ASCII digit are its value
unfoldable pub value_from : ℕ → List ℕ → ℕ
value_from v [] = v
value_from v (b ∷ l) = value_from (10 * v + b % 16) l

abbrev pub largest : ℕ
largest = 4294967295

unfoldable pub limited : ℕ → Option ℕ
limited v = cond (leb v largest) (Some v) None

-- what digits say with the rest of the text behind them
unfoldable pub said_by : List ℕ → List ℕ → Option ℕ
said_by [] rest = None
said_by (d ∷ ds) rest = cond (is_blank rest) (limited (value_from 0 (d ∷ ds))) None

-- the budget that a text says, and that one as a number of steps: none counts as 0
unfoldable pub budget_in : List ℕ → Option ℕ
budget_in text = said_by (digits_of (body_of text)) (rest_of (body_of text))

unfoldable pub steps_of : Option ℕ → ℕ
steps_of (Some n) = n
steps_of None = 0

unfoldable pub budget_of : List ℕ → ℕ
budget_of text = steps_of (budget_in text)

-- white space before a budget makes no difference, however much there is: 65,536 spaces and a 2 say 2
pub spaces_before : (n : ℕ) (text : List ℕ) → budget_of (replicate n 32 ++ text) ≡ budget_of text
unfolding budget_of budget_in body_of is_white
spaces_before zero text = refl
spaces_before (suc n) text = spaces_before n text

pub spaces_and_two : budget_of (replicate 65536 32 ++ (50 ∷ [])) ≡ 2
unfolding budget_of budget_in body_of digits_of rest_of is_white is_digit is_blank said_by value_from limited steps_of
spaces_and_two = spaces_before 65536 (50 ∷ [])
