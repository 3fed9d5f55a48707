-- At the bytes of each arm antt computes what the rows say.
-- Assumes nothing.
use Prim.Native.Nat.{ℕ, ◌%◌}
use native.Mathlib.Omega.{arith}
use mathlib.Core.Path.{refl}
use mathlib.Core.List.{List, [], ◌∷◌}
use borrow.Author.Rules.{rules}
use Rattle.codes.specs.declared.Instr.TheVariants.{Undefined, Smb, Srb, CpseHlIm, CpseAR, JrWx, JrEa, LdARa, LdRaA, PushSb, PopSb, AndAIm, OrAIm, XorAIm, Com, IncsHl}
use Rattle.codes.proofs.Candidates.{decode_among}
use Rattle.bitcodes.proofs.SecondByte.{at_keys, at_rest}
use Rattle.decoder.proofs.second.after_dd.Goals as goal

-- the single numbers of the match, arm by arm, the last first
keys : List (List ℕ)
keys = (0x67 ∷ []) ∷ (0x66 ∷ []) ∷ (0x64 ∷ []) ∷ (0x62 ∷ []) ∷ (0x60 ∷ []) ∷ (0x4F ∷ []) ∷ (0x3F ∷ []) ∷ []

pub returns-in-63 : goal.returns-in-63
unfolding decode_among keys
returns-in-63 c = at_keys 0xDD (λ y. Com) (0x3F ∷ []) (λ z. refl) c.args.b1 c.in-63.is

pub returns-in-79 : goal.returns-in-79
unfolding decode_among keys
returns-in-79 c = at_keys 0xDD (λ y. Smb 15) (0x4F ∷ []) (λ z. refl) c.args.b1 c.in-79.is

pub returns-in-96 : goal.returns-in-96
unfolding decode_among keys
returns-in-96 c = at_keys 0xDD (λ y. JrEa) (0x60 ∷ []) (λ z. refl) c.args.b1 c.in-96.is

pub returns-in-98 : goal.returns-in-98
unfolding decode_among keys
returns-in-98 c = at_keys 0xDD (λ y. IncsHl) (0x62 ∷ []) (λ z. refl) c.args.b1 c.in-98.is

pub returns-in-100 : goal.returns-in-100
unfolding decode_among keys
returns-in-100 c = at_keys 0xDD (λ y. JrWx) (0x64 ∷ []) (λ z. refl) c.args.b1 c.in-100.is

pub returns-in-102 : goal.returns-in-102
unfolding decode_among keys
returns-in-102 c = at_keys 0xDD (λ y. PopSb) (0x66 ∷ []) (λ z. refl) c.args.b1 c.in-102.is

pub returns-in-103 : goal.returns-in-103
unfolding decode_among keys
returns-in-103 c = at_keys 0xDD (λ y. PushSb) (0x67 ∷ []) (λ z. refl) c.args.b1 c.in-103.is

pub returns-in-1-to-7 : goal.returns-in-1-to-7
unfolding decode_among keys
returns-in-1-to-7 c = at_rest 0xDD keys (λ y. LdRaA (y % 8)) 0x01 0x07 (λ z. refl) c.args.b1 (search rules) (omega arith) (omega arith)

pub returns-in-9-to-15 : goal.returns-in-9-to-15
unfolding decode_among keys
returns-in-9-to-15 c = at_rest 0xDD keys (λ y. LdARa (y % 8)) 0x09 0x07 (λ z. refl) c.args.b1 (search rules) (omega arith) (omega arith)

pub returns-in-16-to-31 : goal.returns-in-16-to-31
unfolding decode_among keys
returns-in-16-to-31 c = at_rest 0xDD keys (λ y. AndAIm (y % 16)) 0x10 0x10 (λ z. refl) c.args.b1 (search rules) (omega arith) (omega arith)

pub returns-in-32-to-47 : goal.returns-in-32-to-47
unfolding decode_among keys
returns-in-32-to-47 c = at_rest 0xDD keys (λ y. OrAIm (y % 16)) 0x20 0x10 (λ z. refl) c.args.b1 (search rules) (omega arith) (omega arith)

pub returns-in-48-to-62 : goal.returns-in-48-to-62
unfolding decode_among keys
returns-in-48-to-62 c = at_rest 0xDD keys (λ y. XorAIm (y % 16)) 0x30 0x0F (λ z. refl) c.args.b1 (search rules) (omega arith) (omega arith)

pub returns-in-64-to-65 : goal.returns-in-64-to-65
unfolding decode_among keys
returns-in-64-to-65 c = at_rest 0xDD keys (λ y. Smb (y % 16)) 0x3F 0x03 (λ z. refl) c.args.b1 (search rules) (omega arith) (omega arith)

pub returns-in-80-to-83 : goal.returns-in-80-to-83
unfolding decode_among keys
returns-in-80-to-83 c = at_rest 0xDD keys (λ y. Srb (y % 4)) 0x4F 0x05 (λ z. refl) c.args.b1 (search rules) (omega arith) (omega arith)

pub returns-in-104-to-111 : goal.returns-in-104-to-111
unfolding decode_among keys
returns-in-104-to-111 c = at_rest 0xDD keys (λ y. CpseAR (y % 8)) 0x66 0x0A (λ z. refl) c.args.b1 (search rules) (omega arith) (omega arith)

pub returns-in-112-to-127 : goal.returns-in-112-to-127
unfolding decode_among keys
returns-in-112-to-127 c = at_rest 0xDD keys (λ y. CpseHlIm (y % 16)) 0x70 0x10 (λ z. refl) c.args.b1 (search rules) (omega arith) (omega arith)

pub returns-in_default : goal.returns-in_default
unfolding decode_among keys
returns-in_default c = at_rest 0xDD keys (λ y. Undefined) 0x00 0x01 (λ z. refl) c.args.b1 (search rules) (omega arith) (omega arith)

pub returns-in_default-2 : goal.returns-in_default-2
unfolding decode_among keys
returns-in_default-2 c = at_rest 0xDD keys (λ y. Undefined) 0x08 0x01 (λ z. refl) c.args.b1 (search rules) (omega arith) (omega arith)

pub returns-in_default-3 : goal.returns-in_default-3
unfolding decode_among keys
returns-in_default-3 c = at_rest 0xDD keys (λ y. Undefined) 0x42 0x0D (λ z. refl) c.args.b1 (search rules) (omega arith) (omega arith)

pub returns-in_default-4 : goal.returns-in_default-4
unfolding decode_among keys
returns-in_default-4 c = at_rest 0xDD keys (λ y. Undefined) 0x54 0x12 (λ z. refl) c.args.b1 (search rules) (omega arith) (omega arith)

pub returns-in_default-5 : goal.returns-in_default-5
unfolding decode_among keys
returns-in_default-5 c = at_rest 0xDD keys (λ y. Undefined) 0x80 0x80 (λ z. refl) c.args.b1 (search rules) (omega arith) (omega arith)
