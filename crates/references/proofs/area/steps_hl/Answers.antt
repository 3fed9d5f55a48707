-- At the bytes of each arm antt computes the definition.
-- Assumes nothing.
use Prim.Native.Nat.{ℕ}
use mathlib.Core.Bool.{true, false}
use native.Mathlib.Omega.{arith}
use mathlib.Core.Path.{refl}
use mathlib.Core.List.{List, [], ◌∷◌}
use borrow.Author.Rules.{rules}
use Rattle.codes.proofs.Ranges.{listed, past}
use Rattle.references.specs.Reference.{paired}
use Rattle.references.proofs.area.steps_hl.Goals as goal

-- the single numbers of the match, arm by arm, the last first
keys : List (List ℕ)
keys = (0x82 ∷ []) ∷ []

pub returns-in-130 : goal.returns-in-130
unfolding paired keys
returns-in-130 c = listed (λ y. true) (paired 0x8D) (0x82 ∷ []) refl c.args.b1 c.in-130.is

pub returns-in-74-to-75 : goal.returns-in-74-to-75
unfolding paired keys
returns-in-74-to-75 c = past keys (λ y. true) (paired 0x8D) 0x4A 0x02 refl c.args.b1 (search rules) (omega arith) (omega arith)

pub returns-in-90-to-91 : goal.returns-in-90-to-91
unfolding paired keys
returns-in-90-to-91 c = past keys (λ y. true) (paired 0x8D) 0x5A 0x02 refl c.args.b1 (search rules) (omega arith) (omega arith)

pub returns-in_default : goal.returns-in_default
unfolding paired keys
returns-in_default c = past keys (λ y. false) (paired 0x8D) 0x00 0x4A refl c.args.b1 (search rules) (omega arith) (omega arith)

pub returns-in_default-2 : goal.returns-in_default-2
unfolding paired keys
returns-in_default-2 c = past keys (λ y. false) (paired 0x8D) 0x4C 0x0E refl c.args.b1 (search rules) (omega arith) (omega arith)

pub returns-in_default-3 : goal.returns-in_default-3
unfolding paired keys
returns-in_default-3 c = past keys (λ y. false) (paired 0x8D) 0x5C 0xA4 refl c.args.b1 (search rules) (omega arith) (omega arith)
