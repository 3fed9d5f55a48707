-- Document 01, "Cases shown of the definitions", last section: the program's lines, "in decimal".
-- Assumes nothing.
use Rattle.std.specs.Prelude.{ℕ, zero, suc, ◌/◌, cond, List, [], ◌∷◌, ◌++◌, ltb}
use Rattle.io.specs.Digits.{last_digits}

-- how many digits a number takes, of at most suc k
unfoldable pub places_of : ℕ → ℕ → ℕ
places_of zero n = 1
places_of (suc k) n = cond (ltb n 10) 1 (suc (places_of k (n / 10)))

-- a number of 32 bits in decimal
unfoldable pub decimal_of : ℕ → List ℕ
decimal_of n = last_digits 10 (places_of 9 n) n

-- numbers on a line: a space (32) between two, a line end (10) after the last
unfoldable pub line_of : List ℕ → List ℕ
line_of [] = []
line_of (n ∷ []) = decimal_of n ++ (10 ∷ [])
line_of (n ∷ (m ∷ l)) = decimal_of n ++ (32 ∷ line_of (m ∷ l))
