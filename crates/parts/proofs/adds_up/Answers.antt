-- A length that is more than what is left. Assumes nothing.
use Rattle.std.proofs.Common.{arith}
use Rattle.parts.proofs.Laws.{too_long}
use Rattle.parts.proofs.adds_up.Goals as goal

pub returns-then-next-left : goal.returns-then-next-left
returns-then-next-left c = too_long c.loop-next.next-index _ _ (omega arith)
