-- Paper 01, "Codes and the table": the table of 256 first bytes gives a code's length and cycles, "an entry whose second byte matters, as DDH, says so".
-- Assumes nothing.
use Rattle.std.specs.Prelude.{ℕ, ◌<◌, ◌≡◌, true, false, cond, List, [], ◌∷◌}
use Rattle.codes.specs.Decode.{info_of, member}

-- the first bytes of the codes that name a bit by their second byte
abbrev pub bit_codes : List ℕ
bit_codes = 0xF4 ∷ 0xF5 ∷ 0xF6 ∷ 0xF7 ∷ 0xF8 ∷ 0xF9 ∷ 0xFC ∷ 0xFD ∷ 0xFE ∷ 0xFF ∷ []

-- the first bytes whose second byte matters
abbrev pub marked : List ℕ
marked = 0xD9 ∷ 0xDB ∷ 0xDC ∷ 0xDD ∷ bit_codes

-- what stands in place of length and cycles at such a first byte
abbrev pub mark : ℕ
mark = 32

-- the entry of the first byte x
unfoldable pub entry_at : ℕ → ℕ
entry_at x = cond (member x marked) mark (info_of x 0)

-- the entries say what is so: at a first byte that is not marked, length and cycles are the same whatever the second byte, and are no mark; at a marked one
-- some second byte changes them
pub record Marking : Type 0 where
  pub plain : (x y : ℕ) → x < 256 → member x marked ≡ false → info_of x y ≡ info_of x 0
  pub apart : (x : ℕ) → x < 256 → member x marked ≡ false → info_of x 0 < mark
  pub matters : (x : ℕ) → x < 256 → member x marked ≡ true → (y : ℕ) × (y < 256) × (info_of x y ≡ info_of x 0 → ⊥)
