-- Length and cycles of a code with a known first byte, by its second byte: antt computes them at the second bytes of an arm, among the rows that the first byte
-- fits.
-- Assumes nothing.
use Prim.Native.Nat.{ℕ, ◌+◌, ◌≤◌, ◌<◌}
use mathlib.Core.Path.{◌≡◌, ◌∙◌}
use mathlib.Core.List.{List}
use types.Run.{OneOf}
use Rattle.codes.specs.Decode.{info_of}
use Rattle.codes.proofs.Candidates.{info_among, info_among_lem}
use Rattle.codes.proofs.Ranges.{Past, each, free, listed, past, values, values_at, within}

-- at any number of a range
pub in_range : (x : ℕ) (f : ℕ → ℕ) (lo n : ℕ) → values each f lo n ≡ values each (info_among x) lo n → (y : ℕ) → lo ≤ y → y < lo + n → f y ≡ info_of x y
in_range x f lo n e y h l = within f (info_among x) lo n e y h l ∙ info_among_lem x y

-- in an arm of single numbers
pub at_keys : (x : ℕ) (f : ℕ → ℕ) (ks : List ℕ) → values_at f ks ≡ values_at (info_among x) ks → (y : ℕ) → OneOf ks y → f y ≡ info_of x y
at_keys x f ks e y h = listed f (info_among x) ks e y h ∙ info_among_lem x y

-- past those arms
pub at_rest : (x : ℕ) (kss : List (List ℕ)) (f : ℕ → ℕ) (lo n : ℕ) → values (free kss) f lo n ≡ values (free kss) (info_among x) lo n → (y : ℕ) → Past kss y → lo ≤ y → y < lo + n → f y ≡ info_of x y
at_rest x kss f lo n e y r h l = past kss f (info_among x) lo n e y r h l ∙ info_among_lem x y
