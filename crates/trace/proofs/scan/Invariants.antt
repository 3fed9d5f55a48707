-- The records passed and the records left make up the trace's. The measure is the bytes left.
use Rattle.std.proofs.Common.{◌-◌, length}
use Rattle.trace.proofs.Scanning.{Along}
use Rattle.trace.proofs.scan.Given as goal

abbrev pub invariant-loop-r : goal.invariant-loop-r
invariant-loop-r l = Along l.trace l.cursor l.p

abbrev pub decreases-loop-r : goal.decreases-loop-r
decreases-loop-r l = length l.trace - l.p.at
