use native.Mathlib.Omega.{arith}
use Rattle.timers.proofs.Made.{shifted_reach, shifted_small, shifted_later}
use Rattle.timers.proofs.taps.reach_at.Goals as goal

pub returns : goal.returns
returns c = (shifted_reach c.args.k c.from-p.result c.args.y (omega arith) (omega arith) (omega arith) c.args.phase c.from-p.ensures, shifted_small c.args.k c.from-p.result c.args.y (omega arith) (omega arith) (omega arith), shifted_later c.args.k c.from-p.result c.args.y (omega arith) (omega arith) (omega arith) (omega arith))
