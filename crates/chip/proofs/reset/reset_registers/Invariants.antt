-- The writes that are left, after those made, are all of Table 9-1's.
use Rattle.std.proofs.Common.{◌≡◌, length, ◌≤◌, drop}
use Rattle.chip.specs.Reset.{table_9_1, with_values}
use Rattle.chip.proofs.reset.reset_registers.Given as goal

abbrev pub invariant-loop-value : goal.invariant-loop-value
invariant-loop-value l =
    (l.value-items ≡ table_9_1) × (l.value-index ≤ 55) × (with_values l.mem (drop l.value-index table_9_1) ≡ with_values l.fn.mem table_9_1)
