-- At each arm's second bytes antt computes what the rows say.
-- Assumes nothing.
use Rattle.std.proofs.Common.{rules, arith, refl, ℕ, List, [], ◌∷◌}
use Rattle.codes.specs.Decode.{info_for}
use Rattle.codes.proofs.Candidates.{info_among}
use Rattle.codes.proofs.SecondByte.{at_keys, at_rest}
use Rattle.codes.proofs.second.info_dd.Goals as goal

-- the single numbers of the match, arm by arm, the last first
keys : List (List ℕ)
keys = (0x60 ∷ 0x64 ∷ []) ∷ (0x4F ∷ 0x62 ∷ []) ∷ (0x08 ∷ []) ∷ (0x00 ∷ []) ∷ []

pub returns-in-79 : goal.returns-in-79
unfolding info_among
returns-in-79 c = at_keys 0xDD (λ y. info_for 2 2) (0x4F ∷ 0x62 ∷ []) refl c.args.b1 c.in-79.is

pub returns-in-96 : goal.returns-in-96
unfolding info_among
returns-in-96 c = at_keys 0xDD (λ y. info_for 2 3) (0x60 ∷ 0x64 ∷ []) refl c.args.b1 c.in-96.is

pub returns-in-1-to-65 : goal.returns-in-1-to-65
unfolding info_among keys
returns-in-1-to-65 c = at_rest 0xDD keys (λ y. info_for 2 2) 0x00 0x42 refl c.args.b1 (search rules) (omega arith) (omega arith)

pub returns-in-80-to-83 : goal.returns-in-80-to-83
unfolding info_among keys
returns-in-80-to-83 c = at_rest 0xDD keys (λ y. info_for 2 2) 0x4F 0x05 refl c.args.b1 (search rules) (omega arith) (omega arith)

pub returns-in-102-to-127 : goal.returns-in-102-to-127
unfolding info_among keys
returns-in-102-to-127 c = at_rest 0xDD keys (λ y. info_for 2 2) 0x66 0x1A refl c.args.b1 (search rules) (omega arith) (omega arith)

pub returns-in_default : goal.returns-in_default
unfolding info_among keys
returns-in_default c = at_rest 0xDD keys (λ y. 0) 0x42 0x0D refl c.args.b1 (search rules) (omega arith) (omega arith)

pub returns-in_default-2 : goal.returns-in_default-2
unfolding info_among keys
returns-in_default-2 c = at_rest 0xDD keys (λ y. 0) 0x54 0x12 refl c.args.b1 (search rules) (omega arith) (omega arith)

pub returns-in_default-3 : goal.returns-in_default-3
unfolding info_among keys
returns-in_default-3 c = at_rest 0xDD keys (λ y. 0) 0x80 0x80 refl c.args.b1 (search rules) (omega arith) (omega arith)

pub returns-in-0 : goal.returns-in-0
unfolding info_among
returns-in-0 c = at_keys 0xDD (λ y. 0) (0x00 ∷ []) refl c.args.b1 c.in-0.is

pub returns-in-0-2 : goal.returns-in-0-2
unfolding info_among
returns-in-0-2 c = at_keys 0xDD (λ y. 0) (0x08 ∷ []) refl c.args.b1 c.in-0.is
