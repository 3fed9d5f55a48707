-- The sum is that of the lengths passed.
use Rattle.std.proofs.Common.{◌≡◌, take}
use Rattle.parts.specs.Parts.{together}
use Rattle.parts.proofs.trace_start.Given as goal

abbrev pub invariant-loop-length : goal.invariant-loop-length
invariant-loop-length l = l.at ≡ together (take l.length-index (take l.i l.lens))
