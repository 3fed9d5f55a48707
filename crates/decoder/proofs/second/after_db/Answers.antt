-- Antt computes what the rows say at the second bytes of each arm.
-- Assumes nothing.
use Prim.Native.Nat.{ℕ, ◌+◌, ◌%◌, ◌*◌, ◌≤◌, ◌<◌}
use native.Mathlib.Omega.{arith}
use mathlib.Core.Path.{◌≡◌, refl, ap, sym, ◌∙◌}
use mathlib.Core.List.{List, []}
use lib.ListN.{length}
use Rattle.codes.specs.Cells.{Cell, I, O, a, a8, a9, a10, a11, a12, a13, bits_of, byte, operand}
use Rattle.codes.specs.Decode.{decode}
use Rattle.codes.specs.declared.Instr.TheVariants.{Call, Jp, Undefined}
use Rattle.codes.proofs.Candidates.{decode_among, decode_among_lem}
use Rattle.codes.proofs.Ranges.{each, values, within}
use Rattle.decoder.proofs.Operands.{behind, behind_is, joined, joined_is}
use Rattle.bitcodes.proofs.SecondByte.{at_rest}
use Rattle.decoder.proofs.second.after_db.Goals as goal

-- an address in the second and third byte
far : (cs : List Cell) (f : ℕ → ℕ) (lo n : ℕ) → length cs ≡ 8 → values each f lo n ≡ values each (λ y. operand a cs (bits_of y)) lo n → (y z : ℕ) → lo ≤ y → y < lo + n → z < 256 → f y + z ≡ behind (joined cs y z)
far cs f lo n s e y z h l q = joined_is cs f lo n s e y z h l q ∙ sym (behind_is (joined cs y z))

jump : (y z : ℕ) → y < 64 → Jp (behind (joined (byte O O a13 a12 a11 a10 a9 a8) y z)) ≡ decode 0xDB y z
unfolding decode_among
jump y z h = within (λ y. Jp (behind (joined (byte O O a13 a12 a11 a10 a9 a8) y z))) (decode_among z 0xDB) 0 64 refl y (omega arith) (omega arith) ∙ decode_among_lem z 0xDB y

call : (y z : ℕ) → 64 ≤ y → y < 128 → Call (behind (joined (byte O I a13 a12 a11 a10 a9 a8) y z)) ≡ decode 0xDB y z
unfolding decode_among
call y z g h = within (λ y. Call (behind (joined (byte O I a13 a12 a11 a10 a9 a8) y z))) (decode_among z 0xDB) 64 64 refl y (omega arith) (omega arith) ∙ decode_among_lem z 0xDB y

pub returns-in-0-to-63 : goal.returns-in-0-to-63
unfolding decode_among
returns-in-0-to-63 c = ap Jp (far (byte O O a13 a12 a11 a10 a9 a8) (λ y. y * 256) 0 64 refl refl c.args.b1 c.args.b2 (omega arith) (omega arith) (omega arith)) ∙
    jump c.args.b1 c.args.b2 (omega arith)

pub returns-in-64-to-127 : goal.returns-in-64-to-127
unfolding decode_among
returns-in-64-to-127 c = ap Call (far (byte O I a13 a12 a11 a10 a9 a8) (λ y. y % 64 * 256) 64 64 refl refl c.args.b1 c.args.b2 (omega arith) (omega arith) (omega arith)) ∙
    call c.args.b1 c.args.b2 (omega arith) (omega arith)

pub returns-in_default : goal.returns-in_default
unfolding decode_among
returns-in_default c = at_rest 0xDB [] (λ y. Undefined) 0x80 0x80 (λ z. refl) c.args.b1 tt (omega arith) (omega arith) c.args.b2
