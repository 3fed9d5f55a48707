use native.Mathlib.Omega.{arith}
use Rattle.timers.proofs.Stored.{still_bmod, still_ticks}
use Rattle.timers.proofs.still.Goals as goal

pub returns-then-bmod-ge8 : goal.returns-then-bmod-ge8
returns-then-bmod-ge8 c = still_bmod c.args.mem.now c.args.basic c.args.n c.nib-bmod.result c.nib-bmod.ensures (omega arith)

pub returns : goal.returns
returns c = still_ticks c.args.mem.now c.args.basic c.args.n c.nib-bmod.result c.nib-bmod.ensures (omega arith) c.from-w.result c.tap-k.result c.from-w.ensures c.tap-k.ensures.0
