use Rattle.std.proofs.Common.{arith}
use Rattle.portlog.proofs.Driving.{latched_small}
use Rattle.portlog.proofs.driven_at.Goals as goal

pub returns : goal.returns
returns c = (simp c.driven.ensures, omega (arith, c.driven.ensures, latched_small c.args.mem.now c.args.p))
