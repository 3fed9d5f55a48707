-- The second codes of the first byte's group, and none after any other first byte.
-- Assumes nothing.
use Rattle.std.proofs.Common.{rules, arith, refl, false, [], ◌∷◌}
use Rattle.codes.proofs.Ranges.{past}
use Rattle.references.specs.Reference.{paired}
use Rattle.references.proofs.area.is_pair.Goals as goal

pub returns-in-196 : goal.returns-in-196
unfolding paired
returns-in-196 c = rw c.in-196.is c.steps_hl-in-196.ensures

pub returns-in_default : goal.returns-in_default
unfolding paired
returns-in_default c =
    past ((0x8F ∷ []) ∷ (0x8E ∷ []) ∷ (0xC4 ∷ []) ∷ (0x8D ∷ []) ∷ []) (λ x. false) (λ x. paired x c.args.b1) 0 256 refl c.args.b0 (search rules) (omega arith) (omega arith)
