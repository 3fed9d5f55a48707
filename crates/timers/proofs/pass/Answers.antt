use Rattle.timers.proofs.Calls.{passes_on, passes_reset}
use Rattle.timers.proofs.pass.Goals as goal

pub returns-then-bitten : goal.returns-then-bitten
returns-then-bitten c = passes_reset c.args.n c.args.t c.requires.ranged c.total-c.result c.bitten.result c.reset.result c.total-c.ensures.0 c.bitten.ensures c.if-bitten.true c.reset.ensures

pub returns : goal.returns
returns c = passes_on c.args.n c.args.t c.requires.ranged c.total-c.result c.bitten.result c.after.result c.total-c.ensures.0 c.bitten.ensures c.if-bitten.false c.after.ensures
