-- At the bytes of each arm antt computes what the rows say.
-- Assumes nothing.
use Prim.Native.Nat.{ℕ, ◌%◌, ◌/◌, ◌*◌}
use native.Mathlib.Omega.{arith}
use mathlib.Core.Path.{ap, refl, ◌∙◌}
use mathlib.Core.List.{List, [], ◌∷◌}
use borrow.Author.Rules.{rules}
use Rattle.codes.specs.Cells.{I, O, byte, a8, a9, a10, a11}
use Rattle.codes.specs.Decode.{decode}
use Rattle.codes.specs.declared.Instr.TheVariants.{Undefined, Nop, Jps, LdAIm, LdARra, LdADa, LdRrImm, LdDaA, Ldi, Ldd, Rrc, AdsAIm, IncsRrb}
use Rattle.codes.proofs.Ranges.{listed, past}
use Rattle.decoder.proofs.Operands.{alone, behind, joined, joined_is, of_byte}
use Rattle.decoder.proofs.first.middle.Goals as goal

-- the single numbers of the match, arm by arm, the last first
keys : List (List ℕ)
keys = (0xA0 ∷ []) ∷ (0x8C ∷ []) ∷ (0x8B ∷ []) ∷ (0x8A ∷ []) ∷ (0x89 ∷ []) ∷ (0x88 ∷ []) ∷ (0x82 ∷ 0x84 ∷ 0x86 ∷ []) ∷ (0x81 ∷ 0x83 ∷ 0x85 ∷ 0x87 ∷ []) ∷ []

pub returns-in-129 : goal.returns-in-129
unfolding decode keys
returns-in-129 c z = of_byte (λ v. LdRrImm (c.args.b0 / 2 % 4 * 2) v) c.args.b1 (omega arith) (listed (λ x. LdRrImm (x / 2 % 4 * 2) (behind (alone c.args.b1))) (λ x. decode x c.args.b1 z) (0x81 ∷ 0x83 ∷ 0x85 ∷ 0x87 ∷ []) refl c.args.b0 c.in-129.is)

pub returns-in-130 : goal.returns-in-130
unfolding decode keys
returns-in-130 c z = listed (λ x. IncsRrb (x % 8)) (λ x. decode x c.args.b1 z) (0x82 ∷ 0x84 ∷ 0x86 ∷ []) refl c.args.b0 c.in-130.is

pub returns-in-136 : goal.returns-in-136
unfolding decode keys
returns-in-136 c z = listed (λ x. Rrc) (λ x. decode x c.args.b1 z) (0x88 ∷ []) refl c.args.b0 c.in-136.is

pub returns-in-137 : goal.returns-in-137
unfolding decode keys
returns-in-137 c z = of_byte (λ v. LdDaA v) c.args.b1 (omega arith) (listed (λ x. LdDaA (behind (alone c.args.b1))) (λ x. decode x c.args.b1 z) (0x89 ∷ []) refl c.args.b0 c.in-137.is)

pub returns-in-138 : goal.returns-in-138
unfolding decode keys
returns-in-138 c z = listed (λ x. Ldi) (λ x. decode x c.args.b1 z) (0x8A ∷ []) refl c.args.b0 c.in-138.is

pub returns-in-139 : goal.returns-in-139
unfolding decode keys
returns-in-139 c z = listed (λ x. Ldd) (λ x. decode x c.args.b1 z) (0x8B ∷ []) refl c.args.b0 c.in-139.is

pub returns-in-140 : goal.returns-in-140
unfolding decode keys
returns-in-140 c z = of_byte (λ v. LdADa v) c.args.b1 (omega arith) (listed (λ x. LdADa (behind (alone c.args.b1))) (λ x. decode x c.args.b1 z) (0x8C ∷ []) refl c.args.b0 c.in-140.is)

pub returns-in-160 : goal.returns-in-160
unfolding decode keys
returns-in-160 c z = listed (λ x. Nop) (λ x. decode x c.args.b1 z) (0xA0 ∷ []) refl c.args.b0 c.in-160.is

pub returns-in-141-to-143 : goal.returns-in-141-to-143
unfolding decode keys
returns-in-141-to-143 c z = past keys (λ x. LdARra (x % 8)) (λ x. decode x c.args.b1 z) 0x81 0x0F refl c.args.b0 (search rules) (omega arith) (omega arith)

pub returns-in-144-to-159 : goal.returns-in-144-to-159
unfolding decode keys
returns-in-144-to-159 c z = ap Jps (joined_is (byte I O O I a11 a10 a9 a8) (λ x. x % 16 * 256) 0x90 0x10 refl refl c.args.b0 c.args.b1 (omega arith) (omega arith) (omega arith)) ∙ past keys (λ x. Jps (joined (byte I O O I a11 a10 a9 a8) x c.args.b1)) (λ x. decode x c.args.b1 z) 0x90 0x10 refl c.args.b0 (search rules) (omega arith) (omega arith)

pub returns-in-161-to-175 : goal.returns-in-161-to-175
unfolding decode keys
returns-in-161-to-175 c z = past keys (λ x. AdsAIm (x % 16)) (λ x. decode x c.args.b1 z) 0xA0 0x10 refl c.args.b0 (search rules) (omega arith) (omega arith)

pub returns-in-176-to-191 : goal.returns-in-176-to-191
unfolding decode keys
returns-in-176-to-191 c z = past keys (λ x. LdAIm (x % 16)) (λ x. decode x c.args.b1 z) 0xB0 0x10 refl c.args.b0 (search rules) (omega arith) (omega arith)

pub returns-in_default : goal.returns-in_default
unfolding decode keys
returns-in_default c z = past keys (λ x. Undefined) (λ x. decode x c.args.b1 z) 0x80 0x01 refl c.args.b0 (search rules) (omega arith) (omega arith)
