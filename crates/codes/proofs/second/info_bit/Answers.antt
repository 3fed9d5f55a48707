-- At each arm's second bytes antt computes what the rows say.
-- Assumes nothing.
use Rattle.std.proofs.Common.{arith, refl}
use Rattle.codes.specs.Decode.{info_for}
use Rattle.codes.proofs.Candidates.{info_among}
use Rattle.codes.proofs.SecondByte.{in_range}
use Rattle.codes.proofs.second.info_bit.Goals as goal

pub returns-in-80-to-127 : goal.returns-in-80-to-127
unfolding info_among
returns-in-80-to-127 c = in_range 0xF9 (λ y. 0) 0x50 0x30 refl c.args.b1 (omega arith) (omega arith)

pub returns-in_default : goal.returns-in_default
unfolding info_among
returns-in_default c = in_range 0xF9 (λ y. info_for 2 2) 0x00 0x50 refl c.args.b1 (omega arith) (omega arith)

pub returns-in_default-2 : goal.returns-in_default-2
unfolding info_among
returns-in_default-2 c = in_range 0xF9 (λ y. info_for 2 2) 0x80 0x80 refl c.args.b1 (omega arith) (omega arith)
