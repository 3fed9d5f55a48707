-- At the bytes of each arm antt computes what the rows say.
-- Assumes nothing.
use Prim.Native.Nat.{ℕ, ◌%◌}
use native.Mathlib.Omega.{arith}
use mathlib.Core.Path.{refl}
use mathlib.Core.List.{List, [], ◌∷◌}
use borrow.Author.Rules.{rules}
use Rattle.codes.specs.declared.Instr.TheVariants.{Undefined, CpseEaHl, CpseEaRr, XchEaRrb, XchEaHl, LdEaHl, LdEaRrb, LdRrbEa, LdHlEa, AndEaRr, AndRrbEa, OrEaRr, OrRrbEa, XorEaRr, XorRrbEa, AdcEaRr, AdcRrbEa, AdsEaRr, AdsRrbEa, SbcEaRr, SbcRrbEa, SbsEaRr, SbsRrbEa, DecsRr}
use Rattle.codes.proofs.Candidates.{decode_among}
use Rattle.bitcodes.proofs.SecondByte.{at_keys, at_rest}
use Rattle.decoder.proofs.second.after_dc.Goals as goal

-- the single numbers of the match, arm by arm, the last first
keys : List (List ℕ)
keys = (0xFA ∷ 0xFC ∷ 0xFE ∷ []) ∷ (0xF2 ∷ 0xF4 ∷ 0xF6 ∷ []) ∷ (0xE8 ∷ 0xEA ∷ 0xEC ∷ 0xEE ∷ []) ∷ (0xE2 ∷ 0xE4 ∷ 0xE6 ∷ []) ∷ (0xD8 ∷ 0xDA ∷ 0xDC ∷ 0xDE ∷ []) ∷ (0xC8 ∷ 0xCA ∷ 0xCC ∷ 0xCE ∷ []) ∷ (0xC2 ∷ 0xC4 ∷ 0xC6 ∷ []) ∷ (0xB8 ∷ 0xBA ∷ 0xBC ∷ 0xBE ∷ []) ∷ (0xB2 ∷ 0xB4 ∷ 0xB6 ∷ []) ∷ (0xA8 ∷ 0xAA ∷ 0xAC ∷ 0xAE ∷ []) ∷ (0xA2 ∷ 0xA4 ∷ 0xA6 ∷ []) ∷ (0x98 ∷ 0x9A ∷ 0x9C ∷ 0x9E ∷ []) ∷ (0x92 ∷ 0x94 ∷ 0x96 ∷ []) ∷ (0x38 ∷ 0x3A ∷ 0x3C ∷ 0x3E ∷ []) ∷ (0x32 ∷ 0x34 ∷ 0x36 ∷ []) ∷ (0x28 ∷ 0x2A ∷ 0x2C ∷ 0x2E ∷ []) ∷ (0x22 ∷ 0x24 ∷ 0x26 ∷ []) ∷ (0x18 ∷ 0x1A ∷ 0x1C ∷ 0x1E ∷ []) ∷ (0x12 ∷ 0x14 ∷ 0x16 ∷ []) ∷ (0x09 ∷ []) ∷ (0x08 ∷ []) ∷ (0x01 ∷ []) ∷ (0x00 ∷ []) ∷ []

pub returns-in-0 : goal.returns-in-0
unfolding decode_among keys
returns-in-0 c = at_keys 0xDC (λ y. LdHlEa) (0x00 ∷ []) (λ z. refl) c.args.b1 c.in-0.is

pub returns-in-1 : goal.returns-in-1
unfolding decode_among keys
returns-in-1 c = at_keys 0xDC (λ y. XchEaHl) (0x01 ∷ []) (λ z. refl) c.args.b1 c.in-1.is

pub returns-in-8 : goal.returns-in-8
unfolding decode_among keys
returns-in-8 c = at_keys 0xDC (λ y. LdEaHl) (0x08 ∷ []) (λ z. refl) c.args.b1 c.in-8.is

pub returns-in-9 : goal.returns-in-9
unfolding decode_among keys
returns-in-9 c = at_keys 0xDC (λ y. CpseEaHl) (0x09 ∷ []) (λ z. refl) c.args.b1 c.in-9.is

pub returns-in-18 : goal.returns-in-18
unfolding decode_among keys
returns-in-18 c = at_keys 0xDC (λ y. AndRrbEa (y % 8)) (0x12 ∷ 0x14 ∷ 0x16 ∷ []) (λ z. refl) c.args.b1 c.in-18.is

pub returns-in-24 : goal.returns-in-24
unfolding decode_among keys
returns-in-24 c = at_keys 0xDC (λ y. AndEaRr (y % 8)) (0x18 ∷ 0x1A ∷ 0x1C ∷ 0x1E ∷ []) (λ z. refl) c.args.b1 c.in-24.is

pub returns-in-34 : goal.returns-in-34
unfolding decode_among keys
returns-in-34 c = at_keys 0xDC (λ y. OrRrbEa (y % 8)) (0x22 ∷ 0x24 ∷ 0x26 ∷ []) (λ z. refl) c.args.b1 c.in-34.is

pub returns-in-40 : goal.returns-in-40
unfolding decode_among keys
returns-in-40 c = at_keys 0xDC (λ y. OrEaRr (y % 8)) (0x28 ∷ 0x2A ∷ 0x2C ∷ 0x2E ∷ []) (λ z. refl) c.args.b1 c.in-40.is

pub returns-in-50 : goal.returns-in-50
unfolding decode_among keys
returns-in-50 c = at_keys 0xDC (λ y. XorRrbEa (y % 8)) (0x32 ∷ 0x34 ∷ 0x36 ∷ []) (λ z. refl) c.args.b1 c.in-50.is

pub returns-in-56 : goal.returns-in-56
unfolding decode_among keys
returns-in-56 c = at_keys 0xDC (λ y. XorEaRr (y % 8)) (0x38 ∷ 0x3A ∷ 0x3C ∷ 0x3E ∷ []) (λ z. refl) c.args.b1 c.in-56.is

pub returns-in-146 : goal.returns-in-146
unfolding decode_among keys
returns-in-146 c = at_keys 0xDC (λ y. AdsRrbEa (y % 8)) (0x92 ∷ 0x94 ∷ 0x96 ∷ []) (λ z. refl) c.args.b1 c.in-146.is

pub returns-in-152 : goal.returns-in-152
unfolding decode_among keys
returns-in-152 c = at_keys 0xDC (λ y. AdsEaRr (y % 8)) (0x98 ∷ 0x9A ∷ 0x9C ∷ 0x9E ∷ []) (λ z. refl) c.args.b1 c.in-152.is

pub returns-in-162 : goal.returns-in-162
unfolding decode_among keys
returns-in-162 c = at_keys 0xDC (λ y. AdcRrbEa (y % 8)) (0xA2 ∷ 0xA4 ∷ 0xA6 ∷ []) (λ z. refl) c.args.b1 c.in-162.is

pub returns-in-168 : goal.returns-in-168
unfolding decode_among keys
returns-in-168 c = at_keys 0xDC (λ y. AdcEaRr (y % 8)) (0xA8 ∷ 0xAA ∷ 0xAC ∷ 0xAE ∷ []) (λ z. refl) c.args.b1 c.in-168.is

pub returns-in-178 : goal.returns-in-178
unfolding decode_among keys
returns-in-178 c = at_keys 0xDC (λ y. SbsRrbEa (y % 8)) (0xB2 ∷ 0xB4 ∷ 0xB6 ∷ []) (λ z. refl) c.args.b1 c.in-178.is

pub returns-in-184 : goal.returns-in-184
unfolding decode_among keys
returns-in-184 c = at_keys 0xDC (λ y. SbsEaRr (y % 8)) (0xB8 ∷ 0xBA ∷ 0xBC ∷ 0xBE ∷ []) (λ z. refl) c.args.b1 c.in-184.is

pub returns-in-194 : goal.returns-in-194
unfolding decode_among keys
returns-in-194 c = at_keys 0xDC (λ y. SbcRrbEa (y % 8)) (0xC2 ∷ 0xC4 ∷ 0xC6 ∷ []) (λ z. refl) c.args.b1 c.in-194.is

pub returns-in-200 : goal.returns-in-200
unfolding decode_among keys
returns-in-200 c = at_keys 0xDC (λ y. SbcEaRr (y % 8)) (0xC8 ∷ 0xCA ∷ 0xCC ∷ 0xCE ∷ []) (λ z. refl) c.args.b1 c.in-200.is

pub returns-in-216 : goal.returns-in-216
unfolding decode_among keys
returns-in-216 c = at_keys 0xDC (λ y. DecsRr (y % 8)) (0xD8 ∷ 0xDA ∷ 0xDC ∷ 0xDE ∷ []) (λ z. refl) c.args.b1 c.in-216.is

pub returns-in-226 : goal.returns-in-226
unfolding decode_among keys
returns-in-226 c = at_keys 0xDC (λ y. XchEaRrb (y % 8)) (0xE2 ∷ 0xE4 ∷ 0xE6 ∷ []) (λ z. refl) c.args.b1 c.in-226.is

pub returns-in-232 : goal.returns-in-232
unfolding decode_among keys
returns-in-232 c = at_keys 0xDC (λ y. CpseEaRr (y % 8)) (0xE8 ∷ 0xEA ∷ 0xEC ∷ 0xEE ∷ []) (λ z. refl) c.args.b1 c.in-232.is

pub returns-in-242 : goal.returns-in-242
unfolding decode_among keys
returns-in-242 c = at_keys 0xDC (λ y. LdRrbEa (y % 8)) (0xF2 ∷ 0xF4 ∷ 0xF6 ∷ []) (λ z. refl) c.args.b1 c.in-242.is

pub returns-in-250 : goal.returns-in-250
unfolding decode_among keys
returns-in-250 c = at_keys 0xDC (λ y. LdEaRrb (y % 8)) (0xFA ∷ 0xFC ∷ 0xFE ∷ []) (λ z. refl) c.args.b1 c.in-250.is

pub returns-in_default : goal.returns-in_default
unfolding decode_among keys
returns-in_default c = at_rest 0xDC keys (λ y. Undefined) 0x00 0x100 (λ z. refl) c.args.b1 (search rules) (omega arith) (omega arith)
