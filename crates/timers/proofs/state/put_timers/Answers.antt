use mathlib.Core.Path.{refl}
use Rattle.timers.proofs.Stored.{timers_put}
use Rattle.timers.proofs.state.put_timers.Goals as goal

pub returns : goal.returns
returns c = (timers_put c.args.mem.now c.args.t c.put_bmod.ensures c.put_bcnt.ensures c.put_irqb.ensures, refl)
