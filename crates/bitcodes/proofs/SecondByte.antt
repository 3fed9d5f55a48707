-- What a code with a known first byte decodes to, by its second byte: antt computes it at the second bytes of an arm, whatever the third byte.
-- Assumes nothing.
use Prim.Native.Nat.{ℕ, ◌+◌, ◌≤◌, ◌<◌}
use mathlib.Core.Path.{◌≡◌, ◌∙◌}
use mathlib.Core.List.{List}
use types.Run.{OneOf}
use Rattle.codes.specs.Decode.{decode}
use Rattle.codes.specs.declared.Instr.{Instr}
use Rattle.codes.proofs.Candidates.{decode_among, decode_among_lem}
use Rattle.codes.proofs.Ranges.{Past, free, listed, past, values, values_at}

-- in an arm of single numbers
pub at_keys : (x : ℕ) (f : ℕ → Instr) (ks : List ℕ) → ((z : ℕ) → values_at f ks ≡ values_at (decode_among z x) ks) → (y : ℕ) → OneOf ks y → (z : ℕ) → f y ≡ decode x y z
at_keys x f ks e y h z = listed f (decode_among z x) ks (e z) y h ∙ decode_among_lem z x y

-- past those arms
pub at_rest : (x : ℕ) (kss : List (List ℕ)) (f : ℕ → Instr) (lo n : ℕ) → ((z : ℕ) → values (free kss) f lo n ≡ values (free kss) (decode_among z x) lo n) → (y : ℕ) → Past kss y → lo ≤ y → y < lo + n → (z : ℕ) → f y ≡ decode x y z
at_rest x kss f lo n e y r h l z = past kss f (decode_among z x) lo n (e z) y r h l ∙ decode_among_lem z x y
