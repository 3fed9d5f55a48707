-- Document 01, "Codes and the table" and "Calls": where codes come from. The plain machine reads the ROM; the table-driven run is handed
-- the table and no ROM. Every code address is taken modulo N, also for an instruction's later bytes. A table entry has 4 bytes, low byte
-- first: the three ROM bytes from the address on, then the length in two bits and the cycles.
-- Assumes nothing.
use Rattle.std.specs.Prelude.{ℕ, ◌+◌, ◌*◌, ◌%◌, ◌/◌, List, length, get_or}
use Rattle.chip.specs.State.{wrap_of}
use Rattle.codes.specs.Decode.{info_of}
use Rattle.fetch.specs.declared.Origin.{Origin}
use Rattle.fetch.specs.declared.Origin.TheVariants.{Rom, Table}
use Rattle.fetch.specs.declared.Code.{Code}

-- N, from the length of what is read
abbrev pub size_of : Origin → ℕ → ℕ
size_of Rom l = l
size_of Table l = l / 4

-- the byte k places after address p of a ROM
abbrev pub rom_byte : List ℕ → ℕ → ℕ → ℕ
rom_byte rom p k = get_or rom (wrap_of (length rom) (p % 4096 + k)) 0

-- byte k of the entry of address p of a table
abbrev pub entry_byte : List ℕ → ℕ → ℕ → ℕ
entry_byte t p k = get_or t (4 * wrap_of (length t / 4) p + k) 0

-- the code at an address: three bytes, and length + 4 × cycles, 0 if undefined
unfoldable pub code_at : Origin → List ℕ → ℕ → Code
code_at Rom s p =
    record { b0 = rom_byte s p 0; b1 = rom_byte s p 1; b2 = rom_byte s p 2; info = info_of (rom_byte s p 0) (rom_byte s p 1) }
code_at Table s p =
    record { b0 = entry_byte s p 0; b1 = entry_byte s p 1; b2 = entry_byte s p 2; info = entry_byte s p 3 }
