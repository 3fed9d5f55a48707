-- Document 01, "Codes and the table": the table of a ROM has 4 bytes for each address, low byte first: the three ROM bytes from the address on,
-- the later ones modulo N, then the length in two bits and the cycles. Number 5 names the first byte in which a table is not the ROM's.
-- Assumes nothing.
use Rattle.std.specs.Prelude.{ℕ, zero, suc, ◌*◌, ◌/◌, ◌%◌, true, false, cond, List, [], ◌∷◌, eqb, ltb, Option, Some, None, length, get_or}
use Rattle.codes.specs.Decode.{info_of}
use Rattle.fetch.specs.Fetch.{rom_byte}

-- byte j of the table: byte j modulo 4 of the entry of address j / 4
unfoldable pub byte_of : List ℕ → ℕ → ℕ
byte_of rom j = cond (ltb (j % 4) 3) (rom_byte rom (j / 4) (j % 4)) (info_of (rom_byte rom (j / 4) 0) (rom_byte rom (j / 4) 1))

-- f k, f (k + 1) and so on, n of them
unfoldable pub tabulate : ℕ → ℕ → (ℕ → ℕ) → List ℕ
tabulate zero k f = []
tabulate (suc n) k f = f k ∷ tabulate n (suc k) f

unfoldable pub table_of : List ℕ → List ℕ
unfolding tabulate byte_of
table_of rom = tabulate (4 * length rom) 0 (byte_of rom)

-- the first place, of n from k on, at which the table is not the ROM's
unfoldable pub differs : List ℕ → List ℕ → ℕ → ℕ → Option ℕ
unfolding byte_of
differs rom t k zero = None
differs rom t k (suc n) = elim (eqb (get_or t k 0) (byte_of rom k)) [ true ↦ differs rom t (suc k) n | false ↦ Some k ]

unfoldable pub stale_of : List ℕ → List ℕ → Option ℕ
unfolding differs
stale_of rom t = differs rom t 0 (4 * length rom)
