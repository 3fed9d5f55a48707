-- A line of Table 4-1 as one number, as the code looks it up: the columns R/W, 8-bit, 4-bit, 1-bit and bits as hexadecimal digits. What is read off
-- the digits is what the line's own columns say (proofs/Digits.antt).
-- Assumes nothing.
use Rattle.std.specs.Prelude.{ℕ, ◌+◌, ◌*◌, ◌/◌, ◌%◌, cond, eqb}
use Rattle.std.specs.Int.Bits.{bit_and}
use Rattle.rights.specs.declared.Width.{Width}
use Rattle.rights.specs.declared.Width.TheVariants.{One, Four, Eight}
use Rattle.rights.specs.Access.{Location, location_at}

abbrev pub digits_of : Location → ℕ
digits_of v = 0x10000 * v.access + 0x1000 * v.eight + 0x100 * v.four + 0x10 * v.one + v.bits

unfoldable pub rights_at : ℕ → ℕ
unfolding location_at
rights_at a = digits_of (location_at a)

abbrev pub column_in : Width → ℕ → ℕ
column_in One k = k / 0x10 % 16
column_in Four k = k / 0x100 % 16
column_in Eight k = k / 0x1000 % 16

unfoldable pub reach_in : Width → ℕ → ℕ
reach_in w k = bit_and (column_in w k) (k % 16)

unfoldable pub readable_in : Width → ℕ → ℕ
unfolding reach_in
readable_in w k = cond (eqb (k / 0x10000 % 2) 1) (reach_in w k) 0

unfoldable pub writable_in : Width → ℕ → ℕ
writable_in w k = cond (eqb (k / 0x20000 % 2) 1) (column_in w k) 0
