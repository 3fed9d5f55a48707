use native.Mathlib.Omega.{arith}
use lib.Bits.{and_le_r}
use borrow.Author.Tests.{le-ltb}
use Rattle.chip.specs.Memory.{read_of}
use Rattle.rights.proofs.Digits.{readable_at}
use Rattle.chip.proofs.memory.read.Goals as goal

pub returns-else-a-lt-RAM : goal.returns-else-a-lt-RAM
unfolding read_of
returns-else-a-lt-RAM c =
    (simp (c.readable.ensures.0, c.rights_at.ensures, readable_at, c.raw.ensures, le-ltb _ _ c.if-a-lt-RAM.false), omega (arith, and_le_r c.raw.result c.readable.result))
