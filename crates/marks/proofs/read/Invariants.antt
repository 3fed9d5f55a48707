-- `read`: the lines so far, behind the first, say whether all is read, and which marks are kept.
use Rattle.std.proofs.Common.{◌≡◌, ◌≤◌, ◌&&◌, leb, length, take, map}
use Rattle.marks.specs.Order.{longest_order, all_said, numbers_of}
use Rattle.marks.specs.Lines.{room}
use Rattle.marks.proofs.read.Given as goal

abbrev pub invariant-loop-line : goal.invariant-loop-line
invariant-loop-line l = record {
  count : l.count ≤ room;
  long : length l.marks ≡ room;
  readable : l.readable ≡ (leb (length l.order) longest_order && all_said (map (λ x. x.now) l.yielded));
  marks : take l.count l.marks ≡ take room (numbers_of (map (λ x. x.now) l.yielded));
}
