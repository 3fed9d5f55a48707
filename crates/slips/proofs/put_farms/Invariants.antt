-- `put_farms`: the lines that are written, and those of the farms that are left, are all the farms'.
use Rattle.std.proofs.Common.{◌≡◌, ◌++◌, ◌+◌, ◌*◌, ◌≤◌, take}
use Rattle.slips.specs.Slip.{farm_lines}
use Rattle.slips.proofs.Slips.{lines_at}
use Rattle.slips.proofs.put_farms.Given as goal

abbrev pub invariant-loop-i : goal.invariant-loop-i
invariant-loop-i l = record {
  room : l.end ≤ l.to + 33 * l.i;
  text : take l.end l.out ++ lines_at l.marks l.farm l.i ≡ take l.to l.initial.out ++ farm_lines 1 l.marks l.farm;
}
