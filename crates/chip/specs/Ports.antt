-- Chapter 10, Tables 10-1 and 10-4: the ports, their pins and their mode flags; document 01, "A port reads its pin in input mode, else its
-- latch. Driven value: the latch, bits in input mode or without a pin 0."
-- Assumes nothing.
use Rattle.std.specs.Prelude.{ℕ, ◌+◌, ◌-◌, ◌*◌, ◌%◌, ◌/◌, ◌^◌, cond, List, [], ◌∷◌, get_or, eqb}
use Rattle.std.specs.Int.Bits.{bit_and, bit_or}
use Rattle.pins.specs.Pins.{all_pins}
use Rattle.chip.specs.declared.Machine.{Machine}
use Rattle.chip.specs.State.{nib_at, nibble_at, slot_of}

-- a port: the pins that it has, and the location of its mode flags, 0 for a port that has none
pub record Port : Type 0 where
  pub pins : ℕ
  pub mode : ℕ

-- port p with its mode flags
abbrev pub port : ℕ → ℕ → Port
port p mode = record { pins = all_pins p; mode = mode }

unfoldable pub ports : List Port
ports =
    port 0 0xFE8 ∷  -- P0, PMG1
    port 1 0 ∷  -- P1
    port 2 0 ∷  -- P2
    port 3 0xFE9 ∷  -- P3, PMG1
    port 4 0xFEA ∷  -- P4, PMG2
    port 5 0xFEC ∷  -- P5, PMG3
    port 6 0xFED ∷  -- P6, PMG3
    []

unfoldable pub port_at : ℕ → Port
unfolding ports
port_at p = get_or ports p (record { pins = 0; mode = 0 })

-- the pins of a port in a number that has a nibble for each
abbrev pub pins_of : ℕ → ℕ → ℕ
pins_of pins p = pins / 2 ^ (4 * p) % 16

-- the pins of port p in output mode: a mode flag of 1
unfoldable pub outputs_of : List ℕ → ℕ → ℕ
unfolding port_at
outputs_of l p = cond (eqb (port_at p).mode 0) 0 (bit_and (nibble_at l (port_at p).mode) (port_at p).pins)

-- the latch of port p stands at FF0H + p
abbrev pub latch_of : List ℕ → ℕ → ℕ
latch_of l p = nib_at l (slot_of 0xFF0 + p)

-- the latch on the pins in output mode
unfoldable pub latched_of : List ℕ → ℕ → ℕ
latched_of l p = bit_and (latch_of l p) (outputs_of l p)

-- what a machine drives on port p
abbrev pub driven_of : Machine → ℕ → ℕ
driven_of m p = latched_of m.mem p

unfoldable pub port_of : List ℕ → ℕ → ℕ → ℕ
port_of l pins p = bit_or (latched_of l p) (bit_and (pins_of pins p) (15 - outputs_of l p))
