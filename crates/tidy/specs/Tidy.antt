-- The tidy bytes of a meaning, by document 02, No. 3, and the call that writes them: "In the tidy form a gap of 0 has no wait; any other ends in a wait of 1 to
-- 65,535 in the record with the ports or reset, after as many wait-only records of 65,535 as it needs. Trailing wait-only records go." A record's bytes are
-- those of document 01, "The trace". Assumes nothing.
use Rattle.std.specs.Prelude.{ℕ, zero, suc, ◌+◌, ◌*◌, ◌-◌, ◌/◌, cond, List, [], ◌∷◌, ◌++◌, eqb}
use Rattle.pins.specs.Pins.{nibble}
use Rattle.words.specs.Words.{bytes_of}
use Rattle.record.specs.Record.{bit_of}
use Rattle.trace.specs.Trace.{scan_of, scan_number, scan_address}
use Rattle.written.specs.Written.{answer_of, buffer_of}
use Rattle.written.specs.declared.Written.{Written}
use Rattle.tidy.specs.Meaning.{Event, meaning_of}

abbrev pub longest_wait : ℕ
longest_wait = 65535

-- a gap g needs ⌈g / 65,535⌉ − 1 wait-only records, and leaves the rest to the record itself
abbrev pub full_waits : ℕ → ℕ
full_waits g = (g - 1) / longest_wait

abbrev pub own_wait : ℕ → ℕ
own_wait g = g - longest_wait * full_waits g

-- the map's high byte, and the wait if there is one
abbrev pub wait_bytes : ℕ → List ℕ
wait_bytes w = cond (eqb w 0) (0 ∷ []) (1 ∷ bytes_of 2 w)

abbrev pub full_wait_bytes : ℕ → List ℕ
full_wait_bytes zero = []
full_wait_bytes (suc n) = (0 ∷ wait_bytes longest_wait) ++ full_wait_bytes n

-- the fields of n ports from port k on
abbrev pub field_bytes : ℕ → ℕ → ℕ → ℕ → List ℕ
field_bytes ports pins k zero = []
field_bytes ports pins k (suc n) = cond (eqb (bit_of ports k) 1) (nibble pins k ∷ []) [] ++ field_bytes ports pins (suc k) n

-- the map's low byte: the ports with a field, and bit 7 for a reset
abbrev pub low_map : Event → ℕ
low_map e = e.ports + cond e.reset 128 0

-- an event's record with the wait w
abbrev pub record_bytes : ℕ → Event → List ℕ
record_bytes w e = low_map e ∷ (wait_bytes w ++ field_bytes e.ports e.pins 0 7)

-- an event after a gap
abbrev pub event_bytes : ℕ → Event → List ℕ
event_bytes g e = full_wait_bytes (full_waits g) ++ record_bytes (own_wait g) e

-- the events one after the other, `last` being the due time of the one before them; the first gap counts from 0
unfoldable pub tidy_from : ℕ → List Event → List ℕ
tidy_from last [] = []
tidy_from last (e ∷ es) = event_bytes (e.due - last) e ++ tidy_from e.due es

abbrev pub tidy_bytes : List Event → List ℕ
tidy_bytes es = tidy_from 0 es

-- the tidy form of a trace
abbrev pub tidy_of : List ℕ → List ℕ
tidy_of s = tidy_bytes (meaning_of s)

-- the call: 6 with the record's first byte, then 13, else the tidy form's length and its bytes
abbrev pub tidy_answer : List ℕ → List ℕ → Written
tidy_answer s out = answer_of (scan_number (scan_of s 0)) (scan_address (scan_of s 0)) (tidy_of s) out

abbrev pub tidy_buffer : List ℕ → List ℕ → List ℕ
tidy_buffer s out = buffer_of (scan_number (scan_of s 0)) (tidy_of s) out
