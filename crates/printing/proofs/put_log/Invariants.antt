-- `put_log`: the lines that are written, and those of the records that are left, are the log's.
use Rattle.std.proofs.Common.{◌≡◌, ◌++◌, ◌+◌, ◌*◌, ◌≤◌, length, take}
use Rattle.std.specs.Slice.Iter.{chunks_exact_rest, chunks_exact_size}
use Rattle.printing.specs.Printed.{log_lines}
use Rattle.printing.proofs.put_log.Given as goal

abbrev pub invariant-loop-record : goal.invariant-loop-record
invariant-loop-record l = record {
  sized : chunks_exact_size l.record-iterator ≡ 6;
  room : 2 * l.to + 11 * length (chunks_exact_rest l.record-iterator) ≤ 11 * length l.log;
  text : take l.to l.out ++ log_lines (chunks_exact_rest l.record-iterator) ≡ log_lines l.log;
}
