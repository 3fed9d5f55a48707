-- Document 01, "Calls" and its table of numbers: 1 to 8, tested in that order before any step and also for budget 0, all by the table-driven
-- run, all but 2 and 5 by the plain run. What a run is given is accepted when none of the refusals that it tests applies.
-- Assumes nothing.
use Rattle.std.specs.Prelude.{ℕ, ◌*◌, Bool, cond, ◌||◌, List, Option, Some, None, Result, length, eqb, ltb}
use Rattle.numbers.specs.Numbers.{done, rom_refusal, table_refusal, image_refusal, field_refusal, stale_refusal, log_refusal}
use Rattle.chip.specs.State.{rom0502, rom0504}
use Rattle.image.specs.Image.{cpu_of, fault_of, image_size}
use Rattle.table.specs.Table.{stale_of}
use Rattle.trace.specs.declared.Fault.{Fault}
use Rattle.trace.specs.Trace.{scan_of, scan_number, scan_address}

-- what the tests say: accepted, or refused with a number at an address
pub data Verdict : Type 0 where
  accepted : Verdict
  refused_as : ℕ → ℕ → Verdict

-- 1: the ROM's length is neither chip's
abbrev pub rom_fits : ℕ → Bool
rom_fits n = eqb n rom0502 || eqb n rom0504

-- 2: the table's length is not 4 × N
abbrev pub table_fits : ℕ → ℕ → Bool
table_fits n k = eqb k (4 * n)

-- 6 and 7, by what the scan of the trace says: malformed, or a cursor that is no record's start and not the end; 8: the log start is past the end
unfoldable pub trace_verdict : Result ℕ Fault → List ℕ → ℕ → Verdict
trace_verdict x g e =
    cond (eqb (scan_number x) done) (cond (ltb (length g) e) (refused_as log_refusal 0) accepted) (refused_as (scan_number x) (scan_address x))

unfoldable pub start_verdict : List ℕ → List ℕ → List ℕ → ℕ → Verdict
unfolding trace_verdict
start_verdict s t g e = trace_verdict (scan_of t (cpu_of s).cursor) g e

-- 3: the state has another length than an image; 4: a field is out of range; then what `later` says
unfoldable pub state_verdict : ℕ → List ℕ → Verdict → Verdict
state_verdict n s later =
    cond (eqb (length s) image_size) (cond (eqb (fault_of s n) image_size) later (refused_as field_refusal (fault_of s n))) (refused_as image_refusal 0)

-- 5: the table is not the ROM's
unfoldable pub table_verdict : Option ℕ → Verdict → Verdict
table_verdict (Some p) later = refused_as stale_refusal p
table_verdict None later = later

-- the plain run: 1, 3, 4, 6, 7, 8
unfoldable pub plain_verdict : List ℕ → List ℕ → List ℕ → List ℕ → ℕ → Verdict
unfolding start_verdict state_verdict
plain_verdict rom s t g e = cond (rom_fits (length rom)) (state_verdict (length rom) s (start_verdict s t g e)) (refused_as rom_refusal 0)

-- the table-driven run: 1 to 8
unfoldable pub run_verdict : List ℕ → List ℕ → List ℕ → List ℕ → List ℕ → ℕ → Verdict
unfolding start_verdict state_verdict table_verdict
run_verdict rom table s t g e =
    cond (rom_fits (length rom))
    (cond (table_fits (length rom) (length table)) (state_verdict (length rom) s (table_verdict (stale_of rom table) (start_verdict s t g e))) (refused_as table_refusal 0))
    (refused_as rom_refusal 0)
