-- A log as a list of bytes, by document 01, "One step": "For P0, P3, P4, P5, P6 in turn, where a step changed the driven value, 6 bytes go to the log: clock after
-- the step (4, low first), port, nibble"; and which logs document 02, No. 6 takes: "whole records of nondecreasing clock with a driven port and a nibble".
-- Assumes nothing.
use Rattle.std.specs.Prelude.{ℕ, zero, suc, ◌/◌, ◌%◌, Bool, true, false, cond, ◌&&◌, List, [], ◌∷◌, eqb, leb, length, get_or, drop}
use Rattle.words.specs.Words.{long_at}
use Rattle.litres.specs.declared.log.Change.{Change}

abbrev pub record_size : ℕ
record_size = 6

-- the record that stands first in a log
abbrev pub first_of : List ℕ → Change
first_of log = record { clock = long_at log 0; port = get_or log 4 0; nibble = get_or log 5 0 }

-- n records, and all whole ones
unfoldable pub changes_in : ℕ → List ℕ → List Change
changes_in zero log = []
changes_in (suc n) log = first_of log ∷ changes_in n (drop record_size log)

unfoldable pub changes_of : List ℕ → List Change
unfolding changes_in
changes_of log = changes_in (length log / record_size) log

-- the ports that the log speaks of
abbrev pub driven_ports : List ℕ
driven_ports = 0 ∷ 3 ∷ 4 ∷ 5 ∷ 6 ∷ []

abbrev pub among : ℕ → List ℕ → Bool
among p [] = false
among p (q ∷ qs) = cond (eqb p q) true (among p qs)

abbrev pub highest_nibble : ℕ
highest_nibble = 15

-- "with a driven port and a nibble"
unfoldable pub is_sound : Change → Bool
is_sound c = among c.port driven_ports && leb c.nibble highest_nibble

-- "of nondecreasing clock": none before that of the record before it, which for the first is 0
unfoldable pub sound_from : ℕ → List Change → Bool
unfolding is_sound
sound_from last [] = true
sound_from last (c ∷ cs) = leb last c.clock && (is_sound c && sound_from c.clock cs)

-- "whole records"
unfoldable pub is_log : List ℕ → Bool
unfolding sound_from changes_of
is_log log = eqb (length log % record_size) 0 && sound_from 0 (changes_of log)
