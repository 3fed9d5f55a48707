-- As many wait-only records as turns were made stand from `at` on.
use Rattle.std.proofs.Common.{◌+◌, ◌≡◌, length}
use Rattle.std.proofs.lemmas.List.Edits.{sets}
use Rattle.tidy.specs.Tidy.{full_wait_bytes}
use Rattle.tidy.proofs.writer.put_full_waits.Given as goal

abbrev pub invariant-loop : goal.invariant-loop
invariant-loop l = (l.to ≡ l.at + length (full_wait_bytes l.counter)) × (l.out ≡ sets l.fn.out l.at (full_wait_bytes l.counter))
