use Rattle.timers.proofs.Made.{state_made}
use Rattle.timers.proofs.after.after.Goals as goal

pub returns : goal.returns
returns c = state_made c.args.t c.args.n c.args.c c.from.result c.requires.c_value c.from.ensures c.irqb_after.result c.count_after.result c.irqb_after.ensures c.count_after.ensures
