-- At the bytes of each arm antt computes the definition.
-- Assumes nothing.
use Prim.Native.Nat.{ℕ}
use mathlib.Core.Bool.{true, false}
use native.Mathlib.Omega.{arith}
use mathlib.Core.Path.{refl}
use mathlib.Core.List.{List, [], ◌∷◌}
use borrow.Author.Rules.{rules}
use Rattle.codes.proofs.Ranges.{listed, past}
use Rattle.references.specs.Reference.{paired}
use Rattle.references.proofs.area.steps_wx.Goals as goal

-- the single numbers of the match, arm by arm, the last first
keys : List (List ℕ)
keys = (0x84 ∷ []) ∷ []

pub returns-in-132 : goal.returns-in-132
unfolding paired keys
returns-in-132 c = listed (λ y. true) (paired 0x8E) (0x84 ∷ []) refl c.args.b1 c.in-132.is

pub returns-in-76-to-77 : goal.returns-in-76-to-77
unfolding paired keys
returns-in-76-to-77 c = past keys (λ y. true) (paired 0x8E) 0x4C 0x02 refl c.args.b1 (search rules) (omega arith) (omega arith)

pub returns-in-92-to-93 : goal.returns-in-92-to-93
unfolding paired keys
returns-in-92-to-93 c = past keys (λ y. true) (paired 0x8E) 0x5C 0x02 refl c.args.b1 (search rules) (omega arith) (omega arith)

pub returns-in_default : goal.returns-in_default
unfolding paired keys
returns-in_default c = past keys (λ y. false) (paired 0x8E) 0x00 0x4C refl c.args.b1 (search rules) (omega arith) (omega arith)

pub returns-in_default-2 : goal.returns-in_default-2
unfolding paired keys
returns-in_default-2 c = past keys (λ y. false) (paired 0x8E) 0x4E 0x0E refl c.args.b1 (search rules) (omega arith) (omega arith)

pub returns-in_default-3 : goal.returns-in_default-3
unfolding paired keys
returns-in_default-3 c = past keys (λ y. false) (paired 0x8E) 0x5E 0xA2 refl c.args.b1 (search rules) (omega arith) (omega arith)
