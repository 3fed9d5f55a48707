-- Worked cases of the tidy form, by document 02, No. 3, computed from the definitions. Assumes nothing.
use Rattle.std.specs.Prelude.{ℕ, ◌≡◌, refl, false, List, [], ◌∷◌}
use Rattle.record.specs.Record.{sound, mapped, read_as, reading_of}
use Rattle.trace.specs.Trace.{entries_from, end_from, starts_in, due_in, scan_of, scan_number, scan_address}
use Rattle.written.specs.Written.{refusal, wrote, answer_of, buffer_of}
use Rattle.tidy.specs.Meaning.{Event, events_in, meaning_of}
use Rattle.tidy.specs.Tidy.{tidy_from, tidy_of, tidy_answer, tidy_buffer}

-- the empty trace, and one of waits alone
empty : tidy_of [] ≡ []
unfolding entries_from events_in tidy_from
empty = refl

waits_alone : tidy_of (0 ∷ 1 ∷ 5 ∷ 0 ∷ 0 ∷ 1 ∷ 255 ∷ 255 ∷ []) ≡ []
unfolding reading_of mapped read_as sound entries_from events_in tidy_from
waits_alone = refl

-- the gap before a reset: none, 65,535 of two waits, 65,536, 131,070
gap_none : tidy_of (128 ∷ 0 ∷ []) ≡ 128 ∷ 0 ∷ []
unfolding reading_of mapped read_as sound entries_from events_in tidy_from
gap_none = refl

gap_one_record : tidy_of (0 ∷ 1 ∷ 254 ∷ 255 ∷ 128 ∷ 1 ∷ 1 ∷ 0 ∷ []) ≡ 128 ∷ 1 ∷ 255 ∷ 255 ∷ []
unfolding reading_of mapped read_as sound entries_from events_in tidy_from
gap_one_record = refl

gap_two_records : tidy_of (0 ∷ 1 ∷ 0 ∷ 128 ∷ 128 ∷ 1 ∷ 0 ∷ 128 ∷ []) ≡ 0 ∷ 1 ∷ 255 ∷ 255 ∷ 128 ∷ 1 ∷ 1 ∷ 0 ∷ []
unfolding reading_of mapped read_as sound entries_from events_in tidy_from
gap_two_records = refl

gap_two_full : tidy_of (0 ∷ 1 ∷ 255 ∷ 255 ∷ 0 ∷ 1 ∷ 255 ∷ 255 ∷ 128 ∷ 0 ∷ []) ≡ 0 ∷ 1 ∷ 255 ∷ 255 ∷ 128 ∷ 1 ∷ 255 ∷ 255 ∷ []
unfolding reading_of mapped read_as sound entries_from events_in tidy_from
gap_two_full = refl

-- a wait of 5 alone, then P0 = 7 and P1 = 3 at one time as two records, P0 = 7 again 2 later, and a wait of 9 at the end: the first wait goes into the record
-- after it, the second record has none, the field that repeats the pins stays, the last wait goes
abbrev several : List ℕ
several = 0 ∷ 1 ∷ 5 ∷ 0 ∷ 1 ∷ 0 ∷ 7 ∷ 2 ∷ 0 ∷ 3 ∷ 1 ∷ 1 ∷ 2 ∷ 0 ∷ 7 ∷ 0 ∷ 1 ∷ 9 ∷ 0 ∷ []

abbrev tidied : List ℕ
tidied = 1 ∷ 1 ∷ 5 ∷ 0 ∷ 7 ∷ 2 ∷ 0 ∷ 3 ∷ 1 ∷ 1 ∷ 2 ∷ 0 ∷ 7 ∷ []

several_tidied : tidy_of several ≡ tidied
unfolding reading_of mapped read_as sound entries_from events_in tidy_from
several_tidied = refl

-- what it means, as written and tidied
abbrev meant : List Event
meant =
    record { due = 5; ports = 1; pins = 7; reset = false } ∷ record { due = 5; ports = 2; pins = 48; reset = false } ∷
    record { due = 7; ports = 1; pins = 7; reset = false } ∷ []

several_meant : (meaning_of several ≡ meant) × (meaning_of tidied ≡ meant)
unfolding reading_of mapped read_as sound entries_from events_in
several_meant = (refl, refl)

-- the call: the form's length, and its bytes before those that were behind them
written : (tidy_answer (128 ∷ 0 ∷ 0 ∷ 1 ∷ 9 ∷ 0 ∷ []) (1 ∷ 2 ∷ 3 ∷ 4 ∷ []) ≡ wrote 2) × (tidy_buffer (128 ∷ 0 ∷ 0 ∷ 1 ∷ 9 ∷ 0 ∷ []) (1 ∷ 2 ∷ 3 ∷ 4 ∷ []) ≡ 128 ∷ 0 ∷ 3 ∷ 4 ∷ [])
unfolding reading_of mapped read_as sound entries_from end_from starts_in due_in scan_of scan_number scan_address events_in tidy_from answer_of buffer_of
written = (refl, refl)

-- refused: 6 with the place of the record that is malformed, though the buffer is too short as well; 13. The buffer is kept
malformed : (tidy_answer (128 ∷ 0 ∷ 2 ∷ 0 ∷ 4 ∷ []) (1 ∷ []) ≡ refusal 6 2) × (tidy_buffer (128 ∷ 0 ∷ 2 ∷ 0 ∷ 4 ∷ []) (1 ∷ []) ≡ 1 ∷ [])
unfolding reading_of mapped read_as sound entries_from end_from starts_in due_in scan_of scan_number scan_address events_in tidy_from answer_of buffer_of
malformed = (refl, refl)

short : (tidy_answer (128 ∷ 0 ∷ []) (1 ∷ []) ≡ refusal 13 0) × (tidy_buffer (128 ∷ 0 ∷ []) (1 ∷ []) ≡ 1 ∷ [])
unfolding reading_of mapped read_as sound entries_from end_from starts_in due_in scan_of scan_number scan_address events_in tidy_from answer_of buffer_of
short = (refl, refl)
