use Rattle.timers.proofs.Made.{over_made}
use Rattle.timers.proofs.Calls.{cycles_below}
use Rattle.timers.proofs.quiet_cycles.Goals as goal

pub returns : goal.returns
returns c = cycles_below c.args.t c.reach_at-at.result c.args.rate c.requires.ranged (over_made c.args.t c.tap.result c.from.result c.reach_at-at.result c.tap.ensures.0 c.from.ensures c.reach_at-at.ensures.0) c.requires.rate_nonzero
