-- Chapter 4 and document 01, "The state": reads and writes of the data memory by 12-bit address, with the rights of Table 4-1. RAM
-- 000H-1FFH has no limits; a location that is not listed reads 0 and drops writes, and so does an access of a kind or width that the
-- table does not allow. A bit that a location lacks reads 0, is stored as 0 by a 4- or 8-bit write, and is not changed by a 1-bit write.
-- Assumes nothing.
use Rattle.std.specs.Prelude.{ℕ, ◌+◌, ◌-◌, ◌*◌, ◌%◌, ◌/◌, ◌^◌, cond, List, set, eqb, ltb}
use Rattle.std.specs.Int.Bits.{bit_and, bit_or}
use Rattle.rights.specs.declared.Width.{Width}
use Rattle.rights.specs.declared.Width.TheVariants.{One}
use Rattle.chip.specs.State.{ram, nib_at, slot_of}
use Rattle.rights.specs.Access.{location_at, reach_of, readable_of, writable_of}
use Rattle.chip.specs.Ports.{port_of}

-- what stands at an address of bank 15, before rights: FF0H-FF6H are the ports
unfoldable pub raw_of : List ℕ → ℕ → ℕ → ℕ
raw_of l pins a = cond (ltb a 0xFF0) (nib_at l (slot_of a)) (cond (ltb a 0xFF7) (port_of l pins (a - 0xFF0)) (nib_at l (slot_of a)))

-- what an access of a width reads at an address, of a 1-bit access the whole nibble of its bits
unfoldable pub read_of : List ℕ → ℕ → Width → ℕ → ℕ
read_of l pins w a = cond (ltb a ram) (nib_at l a) (bit_and (raw_of l pins a) (readable_of w (location_at a)))

unfoldable pub read_bit_of : List ℕ → ℕ → ℕ → ℕ → ℕ
unfolding read_of
read_bit_of l pins a k = read_of l pins One a / 2 ^ k % 2

-- a write as one number: the index of the nibble, and the nibble that it is given. An index past the nibbles writes nothing.
abbrev pub write_to : ℕ → ℕ → ℕ
write_to i v = i % 4096 * 16 + v % 16

abbrev pub dropped : ℕ
dropped = 0xFFF0

-- the nibbles after a write
abbrev pub put_of : List ℕ → ℕ → List ℕ
put_of l x = set l (x / 16) (x % 16)

-- a write of 4 bits, or of one half of 8 bits
unfoldable pub write_of : Width → ℕ → ℕ → ℕ
write_of w a v =
    cond (ltb a ram) (write_to a v)
    (cond (eqb (writable_of w (location_at a)) 0) dropped (write_to (slot_of a) (bit_and v (reach_of w (location_at a)))))

-- bit k alone
abbrev pub bit_at : ℕ → ℕ
bit_at k = cond (eqb k 0) 1 (cond (eqb k 1) 2 (cond (eqb k 2) 4 8))

-- every bit but k
abbrev pub mask_at : ℕ → ℕ
mask_at k = cond (eqb k 0) 14 (cond (eqb k 1) 13 (cond (eqb k 2) 11 7))

-- the nibble n with bit k made v
abbrev pub with_bit : ℕ → ℕ → ℕ → ℕ
with_bit n k v = cond (eqb v 1) (bit_or n (bit_at k)) (bit_and n (mask_at k))

unfoldable pub write_bit_of : List ℕ → ℕ → ℕ → ℕ → ℕ
write_bit_of l a k v =
    cond (ltb a ram) (write_to a (with_bit (nib_at l a) k v))
    (cond (eqb (bit_and (bit_and (writable_of One (location_at a)) (location_at a).bits) (bit_at k)) 0) dropped
    (write_to (slot_of a) (with_bit (nib_at l (slot_of a)) k v)))
