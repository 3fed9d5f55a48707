-- Bit manipulation, Tables 5-14 and 5-20, and the four places of a bit operand. n is the address after the instruction.
-- Assumes nothing.
use Rattle.std.specs.Prelude.{ℕ, ◌%◌, cond, [], ◌∷◌, eqb}
use Rattle.chip.specs.declared.Machine.{Machine}
use Rattle.chip.specs.Memory.{read_bit_of, write_bit_of}
use Rattle.registers.specs.Addresses.{hda_of, mema_of, memb_of, memb_bit}
use Rattle.codes.specs.declared.Place.{Place}
use Rattle.codes.specs.declared.Place.TheVariants.{Da, Mema, Memb, Hda}
use Rattle.effects.specs.declared.Effect.{Effect}
use Rattle.effects.specs.declared.Spot.{Spot}
use Rattle.effects.specs.Effects.{no_skip, skip_next, doing, writes}
use Rattle.effects.specs.Operands.{direct_in, to_carry}

-- the address and the bit that a place names
abbrev pub spot_at : ℕ → ℕ → Spot
spot_at a k = record { address = a; bit = k }

unfoldable pub spot_of : Machine → Place → Spot
spot_of m (Da a b) = spot_at (direct_in m a) (b % 4)
spot_of m (Mema a b) = spot_at (mema_of a) (b % 4)
spot_of m (Memb a) = spot_at (memb_of m.mem m.cpu.srb a) (memb_bit m.mem m.cpu.srb)
spot_of m (Hda a b) = spot_at (hda_of m.mem m.cpu.smb m.cpu.srb a) (b % 4)

abbrev pub bit_in : Machine → Spot → ℕ
bit_in m x = read_bit_of m.mem m.cpu.pins x.address x.bit

-- the write of v to a bit
abbrev pub to_bit : Machine → Spot → ℕ → ℕ
to_bit m x v = write_bit_of m.mem x.address x.bit v

-- BITS, BITR, LDB to memory
unfoldable pub set_bit : Machine → ℕ → Spot → ℕ → Effect
set_bit m n x v = writes m n (to_bit m x v ∷ [])

-- BTSTZ: skips and clears where the bit reads 1
unfoldable pub test_clear : Machine → ℕ → Spot → Effect
test_clear m n x =
    let one = eqb (bit_in m x) 1 in
    doing m.cpu n (cond one skip_next no_skip) 0 (cond one (to_bit m x 0 ∷ []) [])

-- the carry flag takes a value
unfoldable pub set_carry : Machine → ℕ → ℕ → Effect
set_carry m n v = writes m n (to_carry m v ∷ [])
