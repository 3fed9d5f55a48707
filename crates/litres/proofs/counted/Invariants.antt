-- What is counted, with the litres of the records that are still to come, comes to the whole; the marks that are passed are behind these records.
use Rattle.std.proofs.Common.{ℕ, ◌+◌, ◌≤◌, ◌≡◌, length, get_or}
use Rattle.std.specs.Slice.Iter.{chunks_exact_rest, chunks_exact_size}
use Rattle.litres.specs.Farms.{most_farms, litres_from, litres_in}
use Rattle.litres.specs.Log.{record_size, changes_of}
use Rattle.litres.specs.Tally.{none_yet, tallied_by}
use Rattle.litres.proofs.Farming.{Behind}
use Rattle.litres.proofs.counted.Given as goal

abbrev pub invariant-loop-record : goal.invariant-loop-record
invariant-loop-record l = record {
  sized : chunks_exact_size l.record-iterator ≡ record_size;
  lines : length l.farm ≡ most_farms;
  few_unplaced : l.unplaced + length (chunks_exact_rest l.record-iterator) ≤ length l.log;
  few : (i : ℕ) → get_or l.farm i 0 + length (chunks_exact_rest l.record-iterator) ≤ length l.log;
  behind : Behind l.marks l.line (changes_of (chunks_exact_rest l.record-iterator));
  total : tallied_by l.marks (litres_from l.was (changes_of (chunks_exact_rest l.record-iterator))) (record { unplaced = l.unplaced; farm = l.farm })
      ≡ tallied_by l.marks (litres_in l.log) none_yet;
}
