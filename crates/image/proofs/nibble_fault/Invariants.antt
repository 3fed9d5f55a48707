use Rattle.std.proofs.Common.{◌≡◌, ◌-◌, true}
use Rattle.chip.specs.State.{nibbles}
use Rattle.image.specs.Image.{nibble_fault}
use Rattle.image.proofs.Laws.{FitTo}
use Rattle.image.proofs.nibble_fault.Given as goal

abbrev pub invariant-loop-b : goal.invariant-loop-b
invariant-loop-b l = l.fit ≡ true → FitTo l.b-index l.s

abbrev pub invariant-loop-i : goal.invariant-loop-i
invariant-loop-i l = nibble_fault (nibbles - l.i) l.i l.s ≡ nibble_fault nibbles 0 l.s
