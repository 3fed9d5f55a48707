-- Document 01, "The state", with the bytes of document 02, No. 1 and 2, behind it: the machine as 640 nibbles, 0 to 511 the RAM 000H-1FFH and 512 to 639 the
-- locations F80H-FFFH, and the scalars after them.
-- Assumes nothing.
use Rattle.std.specs.Prelude.{ℕ, ◌+◌, ◌%◌, cond, List, get_or, eqb, ltb}
use Rattle.chip.specs.declared.Cpu.{Cpu}
use Rattle.chip.specs.declared.Machine.{Machine}

-- the nibbles of the data memory, those of the RAM before those of bank 15
abbrev pub nibbles : ℕ
nibbles = 640

abbrev pub ram : ℕ
ram = 512

-- the lengths of a ROM: the KS57C0502's and the KS57C0504's
abbrev pub rom0502 : ℕ
rom0502 = 2048

abbrev pub rom0504 : ℕ
rom0504 = 4096

-- the nibble at an index; a byte that holds more counts by its low four bits
abbrev pub nib_at : List ℕ → ℕ → ℕ
nib_at l i = get_or l i 0 % 16

-- the machine made of nibbles and scalars
abbrev pub at : List ℕ → Cpu → Machine
at l c = record { mem = l; cpu = c }

-- the index of a data address: the RAM at the address itself, bank 15, F80H to FFFH, behind it
abbrev pub slot_of : ℕ → ℕ
slot_of a = cond (ltb a ram) a (a % 128 + ram)

-- the nibble at a data address
abbrev pub nibble_at : List ℕ → ℕ → ℕ
nibble_at l a = nib_at l (slot_of a)

-- a code address modulo the ROM's length n
abbrev pub wrap_of : ℕ → ℕ → ℕ
wrap_of n p = cond (eqb n rom0504) (p % rom0504) (p % rom0502)
