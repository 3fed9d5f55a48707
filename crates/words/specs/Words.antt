-- Document 01, "The state", "The trace" and "One step": a number of two or of four bytes stands with its low byte first.
-- Assumes nothing.
use Rattle.std.specs.Prelude.{ℕ, zero, suc, ◌+◌, ◌*◌, ◌/◌, ◌%◌, List, [], ◌∷◌, get_or}

-- the number of two bytes, and that of two such numbers
abbrev pub word_of : ℕ → ℕ → ℕ
word_of lo hi = lo + 256 * hi

abbrev pub long_of : ℕ → ℕ → ℕ
long_of lo hi = lo + 65536 * hi

-- the number of two and of four bytes at i; a byte past the end counts as 0
abbrev pub word_at : List ℕ → ℕ → ℕ
word_at s i = word_of (get_or s i 0) (get_or s (i + 1) 0)

abbrev pub long_at : List ℕ → ℕ → ℕ
long_at s i = long_of (word_at s i) (word_at s (i + 2))

-- the lowest n bytes of a number
abbrev pub bytes_of : ℕ → ℕ → List ℕ
bytes_of zero x = []
bytes_of (suc n) x = x % 256 ∷ bytes_of n (x / 256)
