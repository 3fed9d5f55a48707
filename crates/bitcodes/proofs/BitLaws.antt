-- The codes of a bit, whatever their first byte: antt computes that each is read as its second byte's place under its first byte's instruction.
-- Assumes nothing.
use Prim.Native.Nat.{ℕ, ◌<◌}
use native.Mathlib.Omega.{arith}
use mathlib.Core.Path.{◌≡◌, refl, ap, ◌∙◌}
use mathlib.Core.Bool.{true, false, not}
use Rattle.codes.specs.Decode.{decode, member}
use Rattle.codes.specs.Entry.{bit_codes}
use Rattle.codes.proofs.Candidates.{decode_among, decode_among_lem}
use Rattle.codes.proofs.Ranges.{picked, values}
use Rattle.bitcodes.specs.BitCodes.{named_by, bit_instr, special}

pub bit_law : (x y z : ℕ) → x < 256 → y < 256 → member x bit_codes ≡ true → special x y ≡ false → bit_instr x (named_by y) ≡ decode x y z
unfolding decode_among
bit_law x y z h l m s =
    picked (λ y. not (special x y)) (λ y. bit_instr x (named_by y)) (decode_among z x) 0 256
    (picked (λ x. member x bit_codes) (λ x. values (λ y. not (special x y)) (λ y. bit_instr x (named_by y)) 0 256) (λ x. values (λ y. not (special x y)) (decode_among z x) 0 256) 0 256 refl x m (omega arith) (omega arith))
    y (ap not s) (omega arith) (omega arith) ∙
    decode_among_lem z x y
