-- Document 01, the program's decimal budget, read a byte at a time. `read_whole` (proofs/Reading.antt): what the pieces of a text say, however it is
-- cut, is `budget_in` of the whole.
-- Assumes nothing.
use Rattle.std.specs.Prelude.{ℕ, ◌+◌, ◌*◌, ◌%◌, cond, List, [], ◌∷◌, leb, Option, None}
use Rattle.text.specs.Budget.{is_white, is_digit, largest, limited}
use Rattle.text.specs.declared.budget.Seen.{Seen}
use Rattle.text.specs.declared.budget.Seen.TheVariants.{Before, Digits, After, Spoilt}

-- a number with one more digit; one above the largest budget stays as it is
unfoldable pub pushed : ℕ → ℕ → ℕ
pushed v b = cond (leb v largest) (10 * v + b % 16) v

-- the next byte: behind white space alone; behind white space that follows digits; behind digits
unfoldable pub read_before : ℕ → Seen
read_before b = cond (is_white b) Before (cond (is_digit b) (Digits (pushed 0 b)) Spoilt)

unfoldable pub read_after : ℕ → ℕ → Seen
read_after v b = cond (is_white b) (After v) Spoilt

unfoldable pub read_digits : ℕ → ℕ → Seen
read_digits v b = cond (is_digit b) (Digits (pushed v b)) (read_after v b)

unfoldable pub read_on : Seen → ℕ → Seen
read_on Before b = read_before b
read_on (Digits v) b = read_digits v b
read_on (After v) b = read_after v b
read_on Spoilt b = Spoilt

-- a piece
unfoldable pub absorbed : Seen → List ℕ → Seen
absorbed s [] = s
absorbed s (b ∷ l) = absorbed (read_on s b) l

-- the pieces of a text, one after another
unfoldable pub absorbed_all : Seen → List (List ℕ) → Seen
absorbed_all s [] = s
absorbed_all s (p ∷ ps) = absorbed_all (absorbed s p) ps

-- what the text says that ends here
unfoldable pub said_of : Seen → Option ℕ
said_of Before = None
said_of (Digits v) = limited v
said_of (After v) = limited v
said_of Spoilt = None
