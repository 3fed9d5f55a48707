-- What the functions that test answer, beside the verdicts of Verdicts.antt: where they accept, the due time of the record at the cursor, which the run
-- goes on with.
-- Assumes nothing.
use Rattle.std.specs.Prelude.{ℕ, ◌≡◌, List, Result, Ok, Err}
use Rattle.numbers.specs.Numbers.{done, rom_refusal, table_refusal, image_refusal, field_refusal, stale_refusal, trace_refusal, cursor_refusal, log_refusal}
use Rattle.image.specs.Image.{cpu_of}
use Rattle.trace.specs.declared.Fault.{Fault}
use Rattle.trace.specs.declared.Fault.TheVariants.{Malformed, Astray}
use Rattle.trace.specs.Trace.{scan_of}
use Rattle.verdicts.specs.declared.Refusal.{Refusal}
use Rattle.verdicts.specs.declared.Refusal.TheVariants.{Rom, Table, Image, Field, Stale, Trace, Cursor, Log}
use Rattle.verdicts.specs.Verdicts.{Verdict, accepted, refused_as}

-- a refusal's number, and its address
abbrev pub number_of : Refusal → ℕ
number_of Rom = rom_refusal
number_of Table = table_refusal
number_of Image = image_refusal
number_of (Field at) = field_refusal
number_of (Stale at) = stale_refusal
number_of (Trace at) = trace_refusal
number_of Cursor = cursor_refusal
number_of Log = log_refusal

abbrev pub address_of : Refusal → ℕ
address_of Rom = 0
address_of Table = 0
address_of Image = 0
address_of (Field at) = at
address_of (Stale at) = at
address_of (Trace at) = at
address_of Cursor = 0
address_of Log = 0

-- what a scan of the trace finds wrong, as a refusal
abbrev pub refusal_of : Fault → Refusal
refusal_of (Malformed at) = Trace at
refusal_of Astray = Cursor

-- the number that a call answers
abbrev pub number_in : {A : Type 0} → Result A Refusal → ℕ
number_in (Ok x) = done
number_in (Err e) = number_of e

-- what tests say: their refusal, or what the later tests do
abbrev pub before : {A : Type 0} → Result A Refusal → Verdict → Verdict
before (Ok x) later = later
before (Err e) later = refused_as (number_of e) (address_of e)

abbrev pub verdict_of : Result ℕ Refusal → Verdict
verdict_of r = before r accepted

-- some of the tests, of which f says what a verdict is by that of the later ones
abbrev pub Says : {A : Type 0} → Result A Refusal → (Verdict → Verdict) → Type 0
Says r f = (later : Verdict) → before r later ≡ f later

-- of the state s and the trace t
pub record Judged (v : Verdict) (s t : List ℕ) (r : Result ℕ Refusal) : Type 0 where
  pub verdict : verdict_of r ≡ v
  pub stands : (due : ℕ) → r ≡ Ok due → scan_of t (cpu_of s).cursor ≡ Ok due
