use Rattle.std.proofs.Common.{arith}
use Rattle.table.proofs.Laws.{stale_below}
use Rattle.verdicts.proofs.judge_table.Goals as goal

pub overflow_cast-result : goal.overflow_cast-result
overflow_cast-result c = omega (arith, stale_below c.args.rom.now c.args.table.now _ c.in-Some.ensures)
