-- Chapter 6, Table 6-1, "Power Control Register (PCON) Organization": the oscillator clocks of a cycle, a line for each value of PCON.1-0; document 02,
-- No. 1: "Each cycle advances 4, 8 or 64 oscillator clocks as PCON says (64 for its bits 01), none in stop mode".
-- Assumes nothing.
use Rattle.std.specs.Prelude.{ℕ, ◌%◌, cond, List, [], ◌∷◌, eqb, get_or}
use Rattle.chip.specs.declared.Machine.{Machine}
use Rattle.chip.specs.Modes.{stopped}
use Rattle.chip.specs.State.{nibble_at}

unfoldable pub table_6_1 : List ℕ
table_6_1 =
    64 ∷  -- 00 fx/64
    64 ∷  -- 01
    8 ∷  -- 10 fx/8
    4 ∷  -- 11 fx/4
    []

-- of the nibbles l in a mode
unfoldable pub rate_in : List ℕ → ℕ → ℕ
unfolding table_6_1
rate_in l mode = cond (eqb mode stopped) 0 (get_or table_6_1 (nibble_at l 0xFB3 % 4) 64)

abbrev pub rate_of : Machine → ℕ
rate_of m = rate_in m.mem m.cpu.mode
