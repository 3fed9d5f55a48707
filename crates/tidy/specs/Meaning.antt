-- What a trace means, by document 02, No. 3: "its list of due time, port fields and reset; wait-only records only add time". An event is a record that has a
-- port field or a reset, at its due time; the events stand in the records' order, two at one time as two. Assumes nothing.
use Rattle.std.specs.Prelude.{ℕ, ◌≡◌, Bool, cond, not, ◌&&◌, List, [], ◌∷◌, eqb}
use Rattle.numbers.specs.Numbers.{done}
use Rattle.record.specs.declared.Record.{Record}
use Rattle.trace.specs.Trace.{Entry, entries, scan_of, scan_number}

-- `ports` has a bit for each port with a field, and `pins` a nibble for each, 0 where there is no field, as in a record
pub record Event : Type 0 where
  pub due : ℕ
  pub ports : ℕ
  pub pins : ℕ
  pub reset : Bool

abbrev pub only_waits : Record → Bool
only_waits r = eqb r.ports 0 && not r.reset

abbrev pub event_of : Entry → Event
event_of e = record { due = e.due; ports = e.body.ports; pins = e.body.pins; reset = e.body.reset }

unfoldable pub events_in : List Entry → List Event
events_in [] = []
events_in (e ∷ es) = cond (only_waits e.body) (events_in es) (event_of e ∷ events_in es)

abbrev pub meaning_of : List ℕ → List Event
meaning_of s = events_in (entries s)

-- an accepted trace: 6 spares it (a cursor at its start is never astray)
abbrev pub Accepted : List ℕ → Type 0
Accepted s = scan_number (scan_of s 0) ≡ done
