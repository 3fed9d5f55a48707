-- At the bytes of each arm antt computes the definition.
-- Assumes nothing.
use Prim.Native.Nat.{ℕ}
use mathlib.Core.Bool.{true, false}
use native.Mathlib.Omega.{arith}
use mathlib.Core.Path.{refl}
use mathlib.Core.List.{List, [], ◌∷◌}
use borrow.Author.Rules.{rules}
use Rattle.codes.proofs.Ranges.{listed, past}
use Rattle.references.specs.Reference.{paired}
use Rattle.references.proofs.area.steps_wl.Goals as goal

-- the single numbers of the match, arm by arm, the last first
keys : List (List ℕ)
keys = (0x4A ∷ 0x4D ∷ 0x5A ∷ 0x5D ∷ []) ∷ []

pub returns-in-74 : goal.returns-in-74
unfolding paired keys
returns-in-74 c = listed (λ y. true) (paired 0x8F) (0x4A ∷ 0x4D ∷ 0x5A ∷ 0x5D ∷ []) refl c.args.b1 c.in-74.is

pub returns-in_default : goal.returns-in_default
unfolding paired keys
returns-in_default c = past keys (λ y. false) (paired 0x8F) 0x00 0x100 refl c.args.b1 (search rules) (omega arith) (omega arith)
