use Rattle.std.proofs.Common.{arith}
use Rattle.table.proofs.Laws.{filled}
use Rattle.table.proofs.fill.Goals as goal

pub returns : goal.returns
returns c = filled _ _ (omega arith) (λ j h. c.loop-j.invariant j (omega arith))
