-- At each arm's second bytes antt computes what the rows say.
-- Assumes nothing.
use Rattle.std.proofs.Common.{rules, arith, refl, ℕ, ◌-◌, ◌*◌, ◌%◌, List, [], ◌∷◌}
use Rattle.codes.specs.Decode.{info_for}
use Rattle.codes.proofs.Candidates.{info_among}
use Rattle.codes.proofs.SecondByte.{at_keys, at_rest}
use Rattle.codes.proofs.second.info_dc.Goals as goal

-- the single numbers of the match, arm by arm, the last first
keys : List (List ℕ)
keys = (0xE0 ∷ 0xF0 ∷ 0xF8 ∷ []) ∷ (0xA0 ∷ 0xB0 ∷ 0xC0 ∷ []) ∷ (0x20 ∷ 0x30 ∷ []) ∷ (0x10 ∷ 0x90 ∷ []) ∷ []

pub returns-in-17-to-63 : goal.returns-in-17-to-63
unfolding info_among keys
returns-in-17-to-63 c = at_rest 0xDC keys (λ y. info_for 2 2 - y % 2 * info_for 2 2) 0x10 0x30 refl c.args.b1 (search rules) (omega arith) (omega arith)

pub returns-in-145-to-207 : goal.returns-in-145-to-207
unfolding info_among keys
returns-in-145-to-207 c = at_rest 0xDC keys (λ y. info_for 2 2 - y % 2 * info_for 2 2) 0x90 0x40 refl c.args.b1 (search rules) (omega arith) (omega arith)

pub returns-in-216-to-255 : goal.returns-in-216-to-255
unfolding info_among keys
returns-in-216-to-255 c = at_rest 0xDC keys (λ y. info_for 2 2 - y % 2 * info_for 2 2) 0xD8 0x28 refl c.args.b1 (search rules) (omega arith) (omega arith)

pub returns-in_default : goal.returns-in_default
unfolding info_among keys
returns-in_default c = at_rest 0xDC keys (λ y. 0) 0x02 0x06 refl c.args.b1 (search rules) (omega arith) (omega arith)

pub returns-in_default-2 : goal.returns-in_default-2
unfolding info_among keys
returns-in_default-2 c = at_rest 0xDC keys (λ y. 0) 0x0A 0x06 refl c.args.b1 (search rules) (omega arith) (omega arith)

pub returns-in_default-3 : goal.returns-in_default-3
unfolding info_among keys
returns-in_default-3 c = at_rest 0xDC keys (λ y. 0) 0x40 0x50 refl c.args.b1 (search rules) (omega arith) (omega arith)

pub returns-in_default-4 : goal.returns-in_default-4
unfolding info_among keys
returns-in_default-4 c = at_rest 0xDC keys (λ y. 0) 0xD0 0x08 refl c.args.b1 (search rules) (omega arith) (omega arith)

pub returns-in-0 : goal.returns-in-0
unfolding info_among keys
returns-in-0 c = at_rest 0xDC keys (λ y. info_for 2 2) 0x00 0x02 refl c.args.b1 (search rules) (omega arith) (omega arith)

pub returns-in-0-2 : goal.returns-in-0-2
unfolding info_among keys
returns-in-0-2 c = at_rest 0xDC keys (λ y. info_for 2 2) 0x08 0x02 refl c.args.b1 (search rules) (omega arith) (omega arith)

pub returns-in-16 : goal.returns-in-16
unfolding info_among
returns-in-16 c = at_keys 0xDC (λ y. 0) (0x10 ∷ 0x90 ∷ []) refl c.args.b1 c.in-16.is

pub returns-in-16-2 : goal.returns-in-16-2
unfolding info_among
returns-in-16-2 c = at_keys 0xDC (λ y. 0) (0x20 ∷ 0x30 ∷ []) refl c.args.b1 c.in-16.is

pub returns-in-16-3 : goal.returns-in-16-3
unfolding info_among
returns-in-16-3 c = at_keys 0xDC (λ y. 0) (0xA0 ∷ 0xB0 ∷ 0xC0 ∷ []) refl c.args.b1 c.in-16.is

pub returns-in-16-4 : goal.returns-in-16-4
unfolding info_among
returns-in-16-4 c = at_keys 0xDC (λ y. 0) (0xE0 ∷ 0xF0 ∷ 0xF8 ∷ []) refl c.args.b1 c.in-16.is
