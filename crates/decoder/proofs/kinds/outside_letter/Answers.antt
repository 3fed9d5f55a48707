-- Its arms are the list's lines.
-- Assumes nothing.
use Rattle.std.proofs.Common.{rules, arith, refl, ℕ, true, false, List, [], ◌∷◌}
use Rattle.codes.specs.Kinds.{outside_letter}
use Rattle.codes.proofs.Ranges.{listed, past}
use Rattle.decoder.proofs.kinds.outside_letter.Goals as goal

-- the single numbers of the match, arm by arm, the last first
keys : List (List ℕ)
keys = (0xDD ∷ []) ∷ (0xDC ∷ []) ∷ (0xD9 ∷ []) ∷ (0x68 ∷ 0x80 ∷ []) ∷ []

pub returns-in-104 : goal.returns-in-104
unfolding outside_letter
returns-in-104 c = listed (λ x. true) (λ x. outside_letter x c.args.b1) (0x68 ∷ 0x80 ∷ []) refl c.args.b0 c.in-104.is

pub returns-in-217 : goal.returns-in-217
unfolding outside_letter
returns-in-217 c = rw c.in-217.is

pub returns-in-220 : goal.returns-in-220
unfolding outside_letter
returns-in-220 c = rw c.in-220.is c.ea_as_rrb.ensures

pub returns-in-221 : goal.returns-in-221
unfolding outside_letter
returns-in-221 c = rw c.in-221.is c.a_as_ra.ensures

pub returns-in_default : goal.returns-in_default
unfolding outside_letter keys
returns-in_default c = past keys (λ x. false) (λ x. outside_letter x c.args.b1) 0 256 refl c.args.b0 (search rules) (omega arith) (omega arith)
