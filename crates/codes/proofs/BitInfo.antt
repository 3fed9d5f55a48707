-- Length and cycles of the codes of a bit are the same for each of their first bytes.
-- Assumes nothing.
use Prim.Native.Nat.{ℕ, ◌<◌}
use native.Mathlib.Omega.{arith}
use mathlib.Core.Bool.{true, cond}
use mathlib.Core.Path.{◌≡◌, refl, sym, ◌∙◌}
use lib.Dec.{ltb}
use Rattle.codes.specs.Decode.{info_for, info_of, member}
use Rattle.codes.specs.Entry.{bit_codes}
use Rattle.codes.proofs.Candidates.{info_among, info_among_lem}
use Rattle.codes.proofs.Ranges.{each, picked, values, within}

-- undefined at the second bytes 50H to 7FH, else 2 bytes and 2 cycles
shape : ℕ → ℕ
shape y = cond (ltb y 0x50) (info_for 2 2) (cond (ltb y 0x80) 0 (info_for 2 2))

of_shape : (x y : ℕ) → x < 256 → y < 256 → member x bit_codes ≡ true → shape y ≡ info_of x y
unfolding info_among shape
of_shape x y h l m =
    within shape (info_among x) 0 256 (picked (λ x. member x bit_codes) (λ x. values each shape 0 256) (λ x. values each (info_among x) 0 256) 0 256 refl x m (omega arith) (omega arith)) y (omega arith) (omega arith) ∙
    info_among_lem x y

pub bit_info : (x y : ℕ) → x < 256 → y < 256 → member x bit_codes ≡ true → info_of 0xF9 y ≡ info_of x y
bit_info x y h l m = sym (of_shape 0xF9 y (omega arith) l refl) ∙ of_shape x y h l m
