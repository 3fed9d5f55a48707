-- Data transfer, Tables 5-11 and 5-17: loads, stores, exchanges and RRC. n is the address after the instruction.
-- Assumes nothing.
use Rattle.std.specs.Prelude.{ℕ, ◌+◌, ◌*◌, ◌%◌, ◌/◌, Bool, false, cond, [], ◌∷◌, eqb}
use Rattle.chip.specs.declared.Machine.{Machine}
use Rattle.rights.specs.declared.Width.TheVariants.{Four, Eight}
use Rattle.chip.specs.Memory.{write_of}
use Rattle.registers.specs.Addresses.{even_of}
use Rattle.effects.specs.declared.Effect.{Effect}
use Rattle.effects.specs.Effects.{no_skip, doing, writes}
use Rattle.effects.specs.Operands.{reg_in, to_reg, carry_in, to_carry, read4_in, half_in}

-- a register or a pair takes a value
unfoldable pub set_reg : Machine → ℕ → ℕ → ℕ → Effect
set_reg m n r v = writes m n (to_reg m r v ∷ [])

unfoldable pub set_pair : Machine → ℕ → ℕ → ℕ → Effect
set_pair m n r v = writes m n (to_reg m r v ∷ to_reg m (r % 8 + 1) (v / 16) ∷ [])

-- the group of LD RR,#imm: 1 for EA, 2 for HL, none for WX and YZ; that of LD A,#im is 1
abbrev pub group_of : ℕ → ℕ
group_of r = cond (eqb r 0) 1 (cond (eqb r 2) 2 0)

-- whether a load does nothing: under the effect of its group; one of no group always loads
abbrev pub ignored : ℕ → ℕ → Bool
ignored effect group = cond (eqb group 0) false (eqb effect group)

-- LD A,#im and LD RR,#imm: each carries its group
unfoldable pub load_im : Machine → ℕ → ℕ → Effect
load_im m n v = doing m.cpu n no_skip 1 (cond (ignored m.cpu.effect 1) [] (to_reg m 0 v ∷ []))

unfoldable pub load_imm : Machine → ℕ → ℕ → ℕ → Effect
load_imm m n r v =
    doing m.cpu n no_skip (group_of r) (cond (ignored m.cpu.effect (group_of r)) [] (to_reg m r v ∷ to_reg m (r % 8 + 1) (v / 16) ∷ []))

-- A ← (a), (a) ← A
unfoldable pub load_a : Machine → ℕ → ℕ → Effect
unfolding set_reg
load_a m n a = set_reg m n 0 (read4_in m a)

unfoldable pub store_a : Machine → ℕ → ℕ → Effect
store_a m n a = writes m n (write_of Four a (reg_in m 0) ∷ [])

-- EA ← (a), (a) ← EA
unfoldable pub load_ea : Machine → ℕ → ℕ → Effect
load_ea m n a = writes m n (to_reg m 0 (half_in m (even_of a)) ∷ to_reg m 1 (half_in m (even_of a + 1)) ∷ [])

unfoldable pub store_ea : Machine → ℕ → ℕ → Effect
store_ea m n a = writes m n (write_of Eight (even_of a) (reg_in m 0) ∷ write_of Eight (even_of a + 1) (reg_in m 1) ∷ [])

-- exchanges write the register, then the memory
unfoldable pub exchange_a : Machine → ℕ → ℕ → Effect
exchange_a m n a = writes m n (to_reg m 0 (read4_in m a) ∷ write_of Four a (reg_in m 0) ∷ [])

unfoldable pub exchange_ea : Machine → ℕ → ℕ → Effect
exchange_ea m n a =
    writes m n
    (to_reg m 0 (half_in m (even_of a)) ∷ to_reg m 1 (half_in m (even_of a + 1)) ∷ write_of Eight (even_of a) (reg_in m 0) ∷
    write_of Eight (even_of a + 1) (reg_in m 1) ∷ [])

unfoldable pub exchange_reg : Machine → ℕ → ℕ → Effect
exchange_reg m n r = writes m n (to_reg m 0 (reg_in m r) ∷ to_reg m r (reg_in m 0) ∷ [])

unfoldable pub exchange_pair : Machine → ℕ → ℕ → Effect
exchange_pair m n r =
    writes m n
    (to_reg m 0 (reg_in m r) ∷ to_reg m 1 (reg_in m (r % 8 + 1)) ∷ to_reg m r (reg_in m 0) ∷ to_reg m (r % 8 + 1) (reg_in m 1) ∷ [])

-- RRC A: C ← A.0, A.3 ← C
unfoldable pub rotate_a : Machine → ℕ → Effect
rotate_a m n = writes m n (to_reg m 0 (reg_in m 0 / 2 + 8 * carry_in m) ∷ to_carry m (reg_in m 0 % 2) ∷ [])
