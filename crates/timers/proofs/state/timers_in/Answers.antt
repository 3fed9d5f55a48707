use Rattle.timers.proofs.Stored.{timers_made, as_ranged}
use Rattle.timers.proofs.state.timers_in.Goals as goal

pub returns : goal.returns
returns c = (timers_made c.args.mem.now c.args.basic c.nib.result c.bcnt.result c.nib-2.result c.watched.result c.nib.ensures c.bcnt.ensures c.watched.ensures c.nib-2.ensures, as_ranged c.args.mem.now c.args.basic (timers_made c.args.mem.now c.args.basic c.nib.result c.bcnt.result c.nib-2.result c.watched.result c.nib.ensures c.bcnt.ensures c.watched.ensures c.nib-2.ensures))
