-- What is written, with the line of the numbers that are left, is the whole; a number takes at most eleven bytes.
use Rattle.std.proofs.Common.{◌+◌, ◌*◌, ◌≤◌, ◌≡◌, ◌∷◌, [], ◌++◌, take, drop}
use Rattle.decimals.specs.Lines.{line_of}
use Rattle.decimals.proofs.line.Given as goal

abbrev pub invariant-loop-number : goal.invariant-loop-number
invariant-loop-number l = record {
  few : l.end ≤ l.at + 11 * l.number-index;
  text : take l.end l.out ++ line_of (drop l.number-index l.before ++ l.last ∷ []) ≡ take l.at l.initial.out ++ line_of l.numbers;
}
