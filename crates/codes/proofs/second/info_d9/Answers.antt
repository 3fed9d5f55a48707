-- At all second bytes antt computes what the rows say.
-- Assumes nothing.
use Rattle.std.proofs.Common.{arith, refl, ◌≡◌, ℕ, ◌%◌, ◌<◌, cond, eq-eqb}
use lib.Dec.{eqb}
use borrow.Author.Tests.{ne_eqb}
use Rattle.codes.specs.Decode.{info_for, info_of}
use Rattle.codes.proofs.Candidates.{info_among}
use Rattle.codes.proofs.SecondByte.{in_range}
use Rattle.codes.proofs.second.info_d9.Goals as goal

rule : (y : ℕ) → y < 256 → cond (eqb (y % 16) 8) 0 (info_for 2 2) ≡ info_of 0xD9 y
unfolding info_among
rule y h = in_range 0xD9 (λ y. cond (eqb (y % 16) 8) 0 (info_for 2 2)) 0 256 refl y (omega arith) (omega arith)

pub returns-then-b1-eq8 : goal.returns-then-b1-eq8
returns-then-b1-eq8 c = rw (← rule c.args.b1 (omega arith), eq-eqb _ _ c.if-b1-eq8.true)

pub returns-else-b1-eq8 : goal.returns-else-b1-eq8
returns-else-b1-eq8 c = rw (← rule c.args.b1 (omega arith), ne_eqb _ _ c.if-b1-eq8.false)
