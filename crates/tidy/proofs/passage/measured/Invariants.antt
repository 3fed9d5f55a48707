-- The bytes so far and the bytes to come make up the tidy form. The measure is the bytes left to read.
use Rattle.std.proofs.Common.{◌-◌, length}
use Rattle.tidy.proofs.Along.{Along}
use Rattle.tidy.proofs.passage.measured.Given as goal

abbrev pub invariant-loop-r : goal.invariant-loop-r
invariant-loop-r l = Along l.trace l.p

abbrev pub decreases-loop-r : goal.decreases-loop-r
decreases-loop-r l = length l.trace - l.p.at
