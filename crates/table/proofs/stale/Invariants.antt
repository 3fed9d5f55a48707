use Rattle.std.proofs.Common.{◌≡◌, ◌-◌, length}
use Rattle.table.specs.Table.{differs, stale_of}
use Rattle.table.proofs.stale.Given as goal

abbrev pub invariant-loop-at : goal.invariant-loop-at
invariant-loop-at l = differs l.rom l.table l.at (length l.table - l.at) ≡ stale_of l.rom l.table
