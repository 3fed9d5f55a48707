-- The lengths passed and what is left make up the bytes.
use Rattle.std.proofs.Common.{◌+◌, ◌≡◌, take}
use Rattle.parts.specs.Parts.{together}
use Rattle.parts.proofs.adds_up.Given as goal

abbrev pub invariant-loop-next : goal.invariant-loop-next
invariant-loop-next l = together (take l.next-index l.lens) + l.left ≡ l.bytes
