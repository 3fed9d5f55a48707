-- The tidy form's first bytes stand at the buffer's start, and the bytes so far and the bytes to come make up the form. The measure is the bytes left to read.
use Rattle.std.proofs.Common.{◌-◌, ◌≡◌, length}
use Rattle.tidy.specs.Tidy.{tidy_of}
use Rattle.tidy.proofs.Along.{Along}
use Rattle.tidy.proofs.Growing.{begun}
use Rattle.tidy.proofs.writer.write.Given as goal

abbrev pub invariant-loop-p : goal.invariant-loop-p
invariant-loop-p l = Along l.trace l.p × (l.out ≡ begun (tidy_of l.trace) l.fn.out l.p.put)

abbrev pub decreases-loop-p : goal.decreases-loop-p
decreases-loop-p l = length l.trace - l.p.at
