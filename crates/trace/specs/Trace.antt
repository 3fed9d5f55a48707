-- The whole trace, by the sections "The trace", "One step" (item 1) and "Calls" (numbers 6 and 7) of document 01: its records one after the other, each with
-- its start, its length and its due time, and what a scan of it says. Assumes nothing.
use Rattle.std.specs.Prelude.{ℕ, zero, suc, ◌+◌, Bool, false, cond, ◌||◌, List, [], ◌∷◌, eqb, ltb, length, drop, Option, Some, None, Result, Err, Ok}
use Rattle.numbers.specs.Numbers.{done, trace_refusal, cursor_refusal}
use Rattle.record.specs.declared.Record.{Record}
use Rattle.record.specs.Record.{reading_of}
use Rattle.trace.specs.declared.Fault.{Fault}
use Rattle.trace.specs.declared.Fault.TheVariants.{Malformed, Astray}

-- a due time larger than any clock
abbrev pub never : ℕ
never = 4294967296

-- at most so many bytes
abbrev pub longest : ℕ
longest = 65536

-- a record of the trace where it stands: due at the sum of the waits up to and with its own
pub record Entry : Type 0 where
  pub start : ℕ
  pub size : ℕ
  pub due : ℕ
  pub body : Record

-- the records from `at` on, up to the end or the first that is malformed, `passed` being the due time of the record before them
unfoldable pub entries_from : ℕ → List ℕ → ℕ → ℕ → List Entry
entries_from zero s at passed = []
entries_from (suc most) s at passed =
    elim (reading_of (drop at s)) [
      | Some (r, n) ↦ record { start = at; size = n; due = passed + r.wait; body = r } ∷ entries_from most s (at + n) (passed + r.wait)
      | None ↦ []
    ]

-- a trace has no more records than bytes
abbrev pub entries : List ℕ → List Entry
entries s = entries_from (length s) s 0 0

-- where the entries end, if they start at `at`
unfoldable pub end_from : ℕ → List Entry → ℕ
end_from at [] = at
end_from at (e ∷ es) = end_from (e.start + e.size) es

-- whether an entry starts at the cursor, and the due time of the one that does
unfoldable pub starts_in : ℕ → List Entry → Bool
starts_in cursor [] = false
starts_in cursor (e ∷ es) = eqb e.start cursor || starts_in cursor es

unfoldable pub due_in : ℕ → List Entry → ℕ
due_in cursor [] = never
due_in cursor (e ∷ es) = cond (eqb e.start cursor) e.due (due_in cursor es)

-- where reading ends: the trace's length, or the first byte of the first malformed record
abbrev pub end_of : List ℕ → ℕ
end_of s = end_from 0 (entries s)

abbrev pub is_start : List ℕ → ℕ → Bool
is_start s cursor = starts_in cursor (entries s)

abbrev pub due_at : List ℕ → ℕ → ℕ
due_at s cursor = due_in cursor (entries s)

-- what the scan says: malformed and where, a cursor that is no record's start and not the end, or the due time of the record at the cursor
unfoldable pub scan_of : List ℕ → ℕ → Result ℕ Fault
scan_of s cursor =
    cond (ltb longest (length s)) (Err (Malformed longest))
    (cond (eqb (end_of s) (length s))
    (cond (is_start s cursor || eqb cursor (length s)) (Ok (due_at s cursor)) (Err Astray))
    (Err (Malformed (end_of s))))

-- the number and the address that "Calls" has for it: 6 with the malformed record's first byte, 7, or 0 where neither applies
unfoldable pub scan_number : Result ℕ Fault → ℕ
scan_number (Err (Malformed at)) = trace_refusal
scan_number (Err Astray) = cursor_refusal
scan_number (Ok due) = done

unfoldable pub scan_address : Result ℕ Fault → ℕ
scan_address (Err (Malformed at)) = at
scan_address (Err Astray) = 0
scan_address (Ok due) = 0

-- the due time of the record at the cursor, `passed` being that of the record before it: never where there is no record
abbrev pub due_after : ℕ → Option (Record × ℕ) → ℕ
due_after passed (Some (r, n)) = passed + r.wait
due_after passed None = never

unfoldable pub due_next : List ℕ → ℕ → ℕ → ℕ
due_next s cursor passed = due_after passed (reading_of (drop cursor s))
