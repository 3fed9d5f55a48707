-- It is a log if the records that are still to come are sound, and none of them is before the last.
use Rattle.std.proofs.Common.{◌≡◌}
use Rattle.std.specs.Slice.Iter.{chunks_exact_rest, chunks_exact_size}
use Rattle.litres.specs.Log.{record_size, changes_of, sound_from, is_log}
use Rattle.litres.proofs.log.is_log.Given as goal

abbrev pub invariant-loop-record : goal.invariant-loop-record
invariant-loop-record l = record {
  sized : chunks_exact_size l.record-iterator ≡ record_size;
  sound : is_log l.log ≡ sound_from l.last (changes_of (chunks_exact_rest l.record-iterator));
}
