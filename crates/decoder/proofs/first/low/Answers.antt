-- At the bytes of each arm antt computes what the rows say.
-- Assumes nothing.
use Prim.Native.Nat.{ℕ, ◌%◌, ◌/◌, ◌*◌, ◌+◌}
use native.Mathlib.Omega.{arith}
use mathlib.Core.Path.{refl}
use mathlib.Core.List.{List, [], ◌∷◌}
use borrow.Author.Rules.{rules}
use Rattle.codes.specs.Decode.{decode}
use Rattle.codes.specs.declared.Instr.TheVariants.{Undefined, Ref, CpseAHl, JrForward, JrBack, XchADa, XchARa, XchARra, Xchi, Xchd, PushRr, PopRr, AndAHl, OrAHl, XorAHl, AdcAHl, AdsAHl, SbcAHl, SbsAHl, DecsR, IncsR}
use Rattle.codes.proofs.Ranges.{listed, past}
use Rattle.decoder.proofs.Operands.{alone, behind, of_byte}
use Rattle.decoder.proofs.first.low.Goals as goal

-- the single numbers of the match, arm by arm, the last first
keys : List (List ℕ)
keys = (0x7B ∷ []) ∷ (0x7A ∷ []) ∷ (0x79 ∷ []) ∷ (0x3F ∷ []) ∷ (0x3E ∷ []) ∷ (0x3D ∷ []) ∷ (0x3C ∷ []) ∷ (0x3B ∷ []) ∷ (0x3A ∷ []) ∷ (0x39 ∷ []) ∷ (0x38 ∷ []) ∷ (0x29 ∷ 0x2B ∷ 0x2D ∷ 0x2F ∷ []) ∷ (0x28 ∷ 0x2A ∷ 0x2C ∷ 0x2E ∷ []) ∷ []

pub returns-in-40 : goal.returns-in-40
unfolding decode keys
returns-in-40 c z = listed (λ x. PopRr (x % 8)) (λ x. decode x c.args.b1 z) (0x28 ∷ 0x2A ∷ 0x2C ∷ 0x2E ∷ []) refl c.args.b0 c.in-40.is

pub returns-in-41 : goal.returns-in-41
unfolding decode keys
returns-in-41 c z = listed (λ x. PushRr (x / 2 % 4 * 2)) (λ x. decode x c.args.b1 z) (0x29 ∷ 0x2B ∷ 0x2D ∷ 0x2F ∷ []) refl c.args.b0 c.in-41.is

pub returns-in-56 : goal.returns-in-56
unfolding decode keys
returns-in-56 c z = listed (λ x. CpseAHl) (λ x. decode x c.args.b1 z) (0x38 ∷ []) refl c.args.b0 c.in-56.is

pub returns-in-57 : goal.returns-in-57
unfolding decode keys
returns-in-57 c z = listed (λ x. AndAHl) (λ x. decode x c.args.b1 z) (0x39 ∷ []) refl c.args.b0 c.in-57.is

pub returns-in-58 : goal.returns-in-58
unfolding decode keys
returns-in-58 c z = listed (λ x. OrAHl) (λ x. decode x c.args.b1 z) (0x3A ∷ []) refl c.args.b0 c.in-58.is

pub returns-in-59 : goal.returns-in-59
unfolding decode keys
returns-in-59 c z = listed (λ x. XorAHl) (λ x. decode x c.args.b1 z) (0x3B ∷ []) refl c.args.b0 c.in-59.is

pub returns-in-60 : goal.returns-in-60
unfolding decode keys
returns-in-60 c z = listed (λ x. SbcAHl) (λ x. decode x c.args.b1 z) (0x3C ∷ []) refl c.args.b0 c.in-60.is

pub returns-in-61 : goal.returns-in-61
unfolding decode keys
returns-in-61 c z = listed (λ x. SbsAHl) (λ x. decode x c.args.b1 z) (0x3D ∷ []) refl c.args.b0 c.in-61.is

pub returns-in-62 : goal.returns-in-62
unfolding decode keys
returns-in-62 c z = listed (λ x. AdcAHl) (λ x. decode x c.args.b1 z) (0x3E ∷ []) refl c.args.b0 c.in-62.is

pub returns-in-63 : goal.returns-in-63
unfolding decode keys
returns-in-63 c z = listed (λ x. AdsAHl) (λ x. decode x c.args.b1 z) (0x3F ∷ []) refl c.args.b0 c.in-63.is

pub returns-in-121 : goal.returns-in-121
unfolding decode keys
returns-in-121 c z = of_byte (λ v. XchADa v) c.args.b1 (omega arith) (listed (λ x. XchADa (behind (alone c.args.b1))) (λ x. decode x c.args.b1 z) (0x79 ∷ []) refl c.args.b0 c.in-121.is)

pub returns-in-122 : goal.returns-in-122
unfolding decode keys
returns-in-122 c z = listed (λ x. Xchi) (λ x. decode x c.args.b1 z) (0x7A ∷ []) refl c.args.b0 c.in-122.is

pub returns-in-123 : goal.returns-in-123
unfolding decode keys
returns-in-123 c z = listed (λ x. Xchd) (λ x. decode x c.args.b1 z) (0x7B ∷ []) refl c.args.b0 c.in-123.is

pub returns-in-1-to-15 : goal.returns-in-1-to-15
unfolding decode keys
returns-in-1-to-15 c z = past keys (λ x. JrBack (x % 16)) (λ x. decode x c.args.b1 z) 0x01 0x0F refl c.args.b0 (search rules) (omega arith) (omega arith)

pub returns-in-17-to-31 : goal.returns-in-17-to-31
unfolding decode keys
returns-in-17-to-31 c z = past keys (λ x. JrForward (x % 16)) (λ x. decode x c.args.b1 z) 0x11 0x0F refl c.args.b0 (search rules) (omega arith) (omega arith)

pub returns-in-32-to-39 : goal.returns-in-32-to-39
unfolding decode keys
returns-in-32-to-39 c z = past keys (λ x. Ref (x / 16 * 16 + x % 8 * 2)) (λ x. decode x c.args.b1 z) 0x20 0x08 refl c.args.b0 (search rules) (omega arith) (omega arith)

pub returns-in-48-to-55 : goal.returns-in-48-to-55
unfolding decode keys
returns-in-48-to-55 c z = past keys (λ x. Ref (x / 16 * 16 + x % 8 * 2)) (λ x. decode x c.args.b1 z) 0x28 0x10 refl c.args.b0 (search rules) (omega arith) (omega arith)

pub returns-in-64-to-71 : goal.returns-in-64-to-71
unfolding decode keys
returns-in-64-to-71 c z = past keys (λ x. Ref (x / 16 * 16 + x % 8 * 2)) (λ x. decode x c.args.b1 z) 0x38 0x10 refl c.args.b0 (search rules) (omega arith) (omega arith)

pub returns-in-72-to-79 : goal.returns-in-72-to-79
unfolding decode keys
returns-in-72-to-79 c z = past keys (λ x. DecsR (x % 8)) (λ x. decode x c.args.b1 z) 0x48 0x08 refl c.args.b0 (search rules) (omega arith) (omega arith)

pub returns-in-80-to-87 : goal.returns-in-80-to-87
unfolding decode keys
returns-in-80-to-87 c z = past keys (λ x. Ref (x / 16 * 16 + x % 8 * 2)) (λ x. decode x c.args.b1 z) 0x50 0x08 refl c.args.b0 (search rules) (omega arith) (omega arith)

pub returns-in-88-to-95 : goal.returns-in-88-to-95
unfolding decode keys
returns-in-88-to-95 c z = past keys (λ x. IncsR (x % 8)) (λ x. decode x c.args.b1 z) 0x58 0x08 refl c.args.b0 (search rules) (omega arith) (omega arith)

pub returns-in-96-to-103 : goal.returns-in-96-to-103
unfolding decode keys
returns-in-96-to-103 c z = past keys (λ x. Ref (x / 16 * 16 + x % 8 * 2)) (λ x. decode x c.args.b1 z) 0x60 0x08 refl c.args.b0 (search rules) (omega arith) (omega arith)

pub returns-in-105-to-111 : goal.returns-in-105-to-111
unfolding decode keys
returns-in-105-to-111 c z = past keys (λ x. XchARa (x % 8)) (λ x. decode x c.args.b1 z) 0x69 0x07 refl c.args.b0 (search rules) (omega arith) (omega arith)

pub returns-in-112-to-119 : goal.returns-in-112-to-119
unfolding decode keys
returns-in-112-to-119 c z = past keys (λ x. Ref (x / 16 * 16 + x % 8 * 2)) (λ x. decode x c.args.b1 z) 0x70 0x08 refl c.args.b0 (search rules) (omega arith) (omega arith)

pub returns-in-125-to-127 : goal.returns-in-125-to-127
unfolding decode keys
returns-in-125-to-127 c z = past keys (λ x. XchARra (x % 8)) (λ x. decode x c.args.b1 z) 0x7D 0x03 refl c.args.b0 (search rules) (omega arith) (omega arith)

pub returns-in_default : goal.returns-in_default
unfolding decode keys
returns-in_default c z = past keys (λ x. Undefined) (λ x. decode x c.args.b1 z) 0x00 0x01 refl c.args.b0 (search rules) (omega arith) (omega arith)

pub returns-in_default-2 : goal.returns-in_default-2
unfolding decode keys
returns-in_default-2 c z = past keys (λ x. Undefined) (λ x. decode x c.args.b1 z) 0x10 0x01 refl c.args.b0 (search rules) (omega arith) (omega arith)

pub returns-in_default-3 : goal.returns-in_default-3
unfolding decode keys
returns-in_default-3 c z = past keys (λ x. Undefined) (λ x. decode x c.args.b1 z) 0x68 0x01 refl c.args.b0 (search rules) (omega arith) (omega arith)

pub returns-in_default-4 : goal.returns-in_default-4
unfolding decode keys
returns-in_default-4 c z = past keys (λ x. Undefined) (λ x. decode x c.args.b1 z) 0x78 0x05 refl c.args.b0 (search rules) (omega arith) (omega arith)
