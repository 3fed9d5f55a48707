-- Worked cases of a record, by the section "The trace" of document 01, computed from the definitions.
-- Assumes nothing.
use Rattle.std.specs.Prelude.{◌≡◌, refl, true, false, [], ◌∷◌, Some, None}
use Rattle.record.specs.Record.{sound, mapped, read_as, reading_of, pins_after}
use Rattle.record.specs.declared.Record.{Record}

-- map 0105H: a wait of 2710H, P0 = 7, P2 = 15
abbrev wait_and_ports : Record
wait_and_ports = record { wait = 10000; ports = 5; reset = false; pins = 3847 }

wait_and_ports_lem : reading_of (5 ∷ 1 ∷ 16 ∷ 39 ∷ 7 ∷ 15 ∷ []) ≡ Some (wait_and_ports, 6)
unfolding reading_of mapped read_as sound
wait_and_ports_lem = refl

-- of the pins 0654321H the record changes P0 and P2
pins_after_lem : pins_after 6636321 wait_and_ports ≡ 6639399
unfolding pins_after
pins_after_lem = refl

reset_only : reading_of (128 ∷ 0 ∷ []) ≡ Some (record { wait = 0; ports = 0; reset = true; pins = 0 }, 2)
unfolding reading_of mapped read_as sound
reset_only = refl

-- refused: map 0, bit 9, a wait of 0, the absent third pin of P1, a record that the end cuts off
map_zero : reading_of (0 ∷ 0 ∷ []) ≡ None
unfolding reading_of mapped read_as sound
map_zero = refl

bit_nine : reading_of (1 ∷ 2 ∷ 7 ∷ []) ≡ None
unfolding reading_of mapped read_as sound
bit_nine = refl

wait_zero : reading_of (0 ∷ 1 ∷ 0 ∷ 0 ∷ []) ≡ None
unfolding reading_of mapped read_as sound
wait_zero = refl

absent_pin : reading_of (2 ∷ 0 ∷ 4 ∷ []) ≡ None
unfolding reading_of mapped read_as sound
absent_pin = refl

cut_off : reading_of (3 ∷ 0 ∷ 7 ∷ []) ≡ None
unfolding reading_of mapped read_as sound
cut_off = refl
