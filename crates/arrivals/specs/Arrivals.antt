-- Document 01, "One step", 1, one record at a time: how the records that are due are applied, and what is known when they are.
-- Assumes nothing.
use Rattle.std.specs.Prelude.{ℕ, ◌<◌, ◌≤◌, ◌≡◌, List, length, drop, Option, Some, None, Ok}
use Rattle.chip.specs.declared.Machine.{Machine}
use Rattle.chip.specs.State.{at}
use Rattle.fetch.specs.declared.Code.{Code}
use Rattle.record.specs.declared.Record.{Record}
use Rattle.record.specs.Record.{reading_of}
use Rattle.trace.specs.Trace.{scan_of}
use Rattle.events.specs.Records.{record_applied, records_of}
use Rattle.arrivals.specs.declared.Due.{Due}

-- the machine after the record that was read at the cursor
abbrev pub after_reading : Code → ℕ → Machine → Option (Record × ℕ) → Machine
after_reading v n m (Some (r, k)) = record_applied v n m r k
after_reading v n m None = m

-- one record that is due, from the machine m
pub record Advanced (v : Code) (n : ℕ) (t : List ℕ) (m : Machine) (r : Due) (l : List ℕ) : Type 0 where
  pub machine : at l r.cpu ≡ after_reading v n m (reading_of (drop m.cpu.cursor t))
  pub stands : scan_of t r.cpu.cursor ≡ Ok r.due
  pub past : m.cpu.cursor < r.cpu.cursor
  pub inside : r.cpu.cursor ≤ length t

-- all records that are due
pub record Applied (v : Code) (n : ℕ) (t : List ℕ) (m : Machine) (r : Due) (l : List ℕ) : Type 0 where
  pub machine : at l r.cpu ≡ records_of v n t m
  pub stands : scan_of t r.cpu.cursor ≡ Ok r.due

-- the same, with the nibbles before the step, which were kept
pub record Arrived (v : Code) (n : ℕ) (t : List ℕ) (m : Machine) (r : Due) (l s : List ℕ) : Type 0 where
  pub machine : at l r.cpu ≡ records_of v n t m
  pub stands : scan_of t r.cpu.cursor ≡ Ok r.due
  pub before : s ≡ m.mem
