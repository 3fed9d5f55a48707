-- A number is made of its bytes, and bytes are those of the number that they make.
-- Assumes nothing.
use Prim.Native.Nat.{ℕ, suc, ◌+◌, ◌*◌, ◌/◌, ◌%◌, ◌<◌}
use native.Mathlib.Omega.{arith}
use mathlib.Core.Path.{◌≡◌, ◌∙◌, ap}
use mathlib.Core.List.{List, [], ◌∷◌}
use Rattle.words.specs.Words.{word_of, long_of, word_at, long_at, bytes_of}

-- the number at the start of a number's own bytes
pub word_back : (x : ℕ) → x < 65536 → word_at (bytes_of 2 x) 0 ≡ x
word_back x h = omega arith

pub long_back : (x : ℕ) → x < 4294967296 → long_at (bytes_of 4 x) 0 ≡ x
long_back x h = omega arith

-- the bytes of a number of bytes: the lowest, and then those of the rest
pub byte_then : (n a x : ℕ) → a < 256 → bytes_of (suc n) (a + 256 * x) ≡ a ∷ bytes_of n x
byte_then n a x h =
    let low : (a + 256 * x) % 256 ≡ a = omega arith in
    let rest : (a + 256 * x) / 256 ≡ x = omega arith in
    λ i. low i ∷ bytes_of n (rest i)

pub byte_last : (a : ℕ) → a < 256 → bytes_of 1 a ≡ a ∷ []
byte_last a h = let low : a % 256 ≡ a = omega arith in λ i. low i ∷ []

pub word_bytes : (a b : ℕ) → a < 256 → b < 256 → bytes_of 2 (word_of a b) ≡ a ∷ b ∷ []
word_bytes a b p q = byte_then 1 a b p ∙ ap (λ (l : List ℕ). a ∷ l) (byte_last b q)

pub long_bytes : (a b c d : ℕ) → a < 256 → b < 256 → c < 256 → d < 256 → bytes_of 4 (long_of (word_of a b) (word_of c d)) ≡ a ∷ b ∷ c ∷ d ∷ []
long_bytes a b c d p q r s =
    let e : long_of (word_of a b) (word_of c d) ≡ a + 256 * (b + 256 * word_of c d) = omega arith in
    ap (bytes_of 4) e ∙ byte_then 3 a (b + 256 * word_of c d) p ∙
    ap (λ (l : List ℕ). a ∷ l) (byte_then 2 b (word_of c d) q ∙ ap (λ (l : List ℕ). b ∷ l) (word_bytes c d r s))
