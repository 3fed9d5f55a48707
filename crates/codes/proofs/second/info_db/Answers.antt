-- At each arm's second bytes antt computes what the rows say.
-- Assumes nothing.
use Rattle.std.proofs.Common.{arith, refl}
use Rattle.codes.specs.Decode.{info_for}
use Rattle.codes.proofs.Candidates.{info_among}
use Rattle.codes.proofs.SecondByte.{in_range}
use Rattle.codes.proofs.second.info_db.Goals as goal

pub returns-in-0-to-63 : goal.returns-in-0-to-63
unfolding info_among
returns-in-0-to-63 c = in_range 0xDB (λ y. info_for 3 3) 0x00 0x40 refl c.args.b1 (omega arith) (omega arith)

pub returns-in-64-to-127 : goal.returns-in-64-to-127
unfolding info_among
returns-in-64-to-127 c = in_range 0xDB (λ y. info_for 3 4) 0x40 0x40 refl c.args.b1 (omega arith) (omega arith)

pub returns-in_default : goal.returns-in_default
unfolding info_among
returns-in_default c = in_range 0xDB (λ y. 0) 0x80 0x80 refl c.args.b1 (omega arith) (omega arith)
