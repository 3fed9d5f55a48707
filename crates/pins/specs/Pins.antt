-- Document 01, "The trace": "P0 and P3 have three pins, P1 two, the others four." The chip, the image's field test and the trace's records all go by
-- this table. The pins of P0 to P6 go as one number with a nibble for each port, P0's lowest.
-- Assumes nothing.
use Rattle.std.specs.Prelude.{ℕ, ◌+◌, ◌-◌, ◌*◌, ◌/◌, ◌%◌, ◌^◌, List, [], ◌∷◌, get_or}

-- how many pins the ports P0 to P6 have
abbrev pub pin_counts : List ℕ
pin_counts = 3 ∷ 2 ∷ 4 ∷ 3 ∷ 4 ∷ 4 ∷ 4 ∷ []

abbrev pub pin_count : ℕ → ℕ
pin_count p = get_or pin_counts p 0

-- every pin of a port, as the bits of a nibble
abbrev pub all_pins : ℕ → ℕ
all_pins p = 2 ^ pin_count p - 1

-- the nibble of port p, and the number of the nibbles f 0 to f 6
abbrev pub nibble : ℕ → ℕ → ℕ
nibble pins p = pins / 16 ^ p % 16

abbrev pub packed : (ℕ → ℕ) → ℕ
packed f = f 0 + 16 * f 1 + 256 * f 2 + 4096 * f 3 + 65536 * f 4 + 1048576 * f 5 + 16777216 * f 6
