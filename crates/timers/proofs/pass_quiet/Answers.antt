use native.Mathlib.Omega.{arith}
use Rattle.timers.proofs.Made.{quiet_made}
use Rattle.timers.proofs.Quiet.{quiet_total}
use Rattle.timers.proofs.Calls.{quiet_small}
use Rattle.timers.proofs.pass_quiet.Goals as goal

pub total-requires : goal.total-requires
total-requires c = omega (arith, quiet_small c.args.n c.args.t c.requires.ranged c.requires.t_value)

pub overflow_cast-s : goal.overflow_cast-s
overflow_cast-s c = omega (arith, c.total.ensures.0, quiet_total c.args.n c.args.t c.requires.ranged c.requires.t_value)

pub overflow_add-s : goal.overflow_add-s
overflow_add-s c = omega (arith, c.from.ensures, quiet_small c.args.n c.args.t c.requires.ranged c.requires.t_value)

pub returns : goal.returns
returns c = quiet_made c.args.t c.args.n c.total.result c.from.result c.total.ensures.0 c.from.ensures
