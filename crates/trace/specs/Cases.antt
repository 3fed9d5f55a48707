-- Worked cases of a whole trace, by the sections "The trace" and "Calls" (numbers 6 and 7) of document 01, computed from the definitions; the last holds of
-- every trace that is too long. Assumes nothing.
use Rattle.std.specs.Prelude.{ℕ, ◌<◌, ◌≡◌, refl, List, [], ◌∷◌, length, Err, Ok}
use Rattle.std.proofs.Common.{lt-ltb}
use Rattle.record.specs.Record.{sound, mapped, read_as, reading_of}
use Rattle.trace.specs.declared.Fault.TheVariants.{Malformed, Astray}
use Rattle.trace.specs.Trace.{never, longest, entries_from, end_from, starts_in, due_in, scan_of, scan_number, scan_address, due_next}

-- a reset at once, a wait of 5 alone, then at the same time P0 = 7: records at 0, 2 and 6
abbrev three : List ℕ
three = 128 ∷ 0 ∷ 0 ∷ 1 ∷ 5 ∷ 0 ∷ 1 ∷ 0 ∷ 7 ∷ []

at_reset : scan_of three 0 ≡ Ok 0
unfolding reading_of mapped read_as sound entries_from end_from starts_in due_in scan_of
at_reset = refl

at_wait : scan_of three 2 ≡ Ok 5
unfolding reading_of mapped read_as sound entries_from end_from starts_in due_in scan_of
at_wait = refl

at_pins_lem : scan_of three 6 ≡ Ok 5
unfolding reading_of mapped read_as sound entries_from end_from starts_in due_in scan_of
at_pins_lem = refl

at_end : scan_of three 9 ≡ Ok never
unfolding reading_of mapped read_as sound entries_from end_from starts_in due_in scan_of
at_end = refl

inside_a_record : scan_of three 3 ≡ Err Astray
unfolding reading_of mapped read_as sound entries_from end_from starts_in due_in scan_of
inside_a_record = refl

-- of two malformed records the first is named, wherever the cursor stands
first_malformed : scan_of (128 ∷ 0 ∷ 2 ∷ 0 ∷ 4 ∷ 0 ∷ 0 ∷ []) 1 ≡ Err (Malformed 2)
unfolding reading_of mapped read_as sound entries_from end_from starts_in due_in scan_of
first_malformed = refl

-- what "Calls" answers to these: number 6 and the address, number 7, none
six : (scan_number (Err (Malformed 2)) ≡ 6) × (scan_address (Err (Malformed 2)) ≡ 2)
unfolding scan_number scan_address
six = (refl, refl)

seven : (scan_number (Err Astray) ≡ 7) × (scan_address (Err Astray) ≡ 0)
unfolding scan_number scan_address
seven = (refl, refl)

none : scan_number (Ok 5) ≡ 0
unfolding scan_number
none = refl

-- the wait alone is due 5 cycles after the reset
after_the_reset : due_next three 2 0 ≡ 5
unfolding reading_of mapped read_as sound due_next
after_the_reset = refl

pub too_long : (s : List ℕ) (cursor : ℕ) → longest < length s → scan_of s cursor ≡ Err (Malformed 65536)
unfolding scan_of
too_long s cursor h = rw (lt-ltb longest (length s) h)
