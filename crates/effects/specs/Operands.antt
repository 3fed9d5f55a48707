-- The operands that instructions name, of a machine before the instruction: registers and pairs of the selected bank, the addresses of
-- chapter 3, and what 4- and 8-bit reads give there. In an 8-bit access the address's low bit is dropped.
-- Assumes nothing.
use Rattle.std.specs.Prelude.{ℕ, ◌+◌, ◌*◌, ◌%◌, cond, eqb}
use Rattle.chip.specs.declared.Machine.{Machine}
use Rattle.rights.specs.declared.Width.TheVariants.{Four, Eight}
use Rattle.registers.specs.Registers.{register_of, pair_of, register_write, carry_of, carry_write, sp_of}
use Rattle.registers.specs.Addresses.{direct_of, hl_of, wx_of, wl_of, even_of}
use Rattle.chip.specs.Memory.{read_of}

-- a register by its number in Table 5-7, a pair by its low register
abbrev pub reg_in : Machine → ℕ → ℕ
reg_in m r = register_of m.mem m.cpu.srb r

abbrev pub pair_in : Machine → ℕ → ℕ
pair_in m r = pair_of m.mem m.cpu.srb r

-- the write of a value to a register
abbrev pub to_reg : Machine → ℕ → ℕ → ℕ
to_reg m r v = register_write m.mem m.cpu.srb r v

abbrev pub carry_in : Machine → ℕ
carry_in m = carry_of m.mem

abbrev pub to_carry : Machine → ℕ → ℕ
to_carry m v = carry_write m.mem v

abbrev pub direct_in : Machine → ℕ → ℕ
direct_in m da = direct_of m.mem m.cpu.smb da

abbrev pub hl_in : Machine → ℕ
hl_in m = hl_of m.mem m.cpu.smb m.cpu.srb

-- @RRa by its number in Table 5-8: 5 @HL, 6 @WX, 7 @WL
unfoldable pub pointed_in : Machine → ℕ → ℕ
pointed_in m i = cond (eqb i 5) (hl_in m) (cond (eqb i 6) (wx_of m.mem m.cpu.srb) (wl_of m.mem m.cpu.srb))

abbrev pub read4_in : Machine → ℕ → ℕ
read4_in m a = read_of m.mem m.cpu.pins Four a

-- the half of an 8-bit access at an address
abbrev pub half_in : Machine → ℕ → ℕ
half_in m a = read_of m.mem m.cpu.pins Eight a

unfoldable pub read8_in : Machine → ℕ → ℕ
read8_in m a = half_in m (even_of a) % 16 + 16 * (half_in m (even_of a + 1) % 16)

abbrev pub sp_in : Machine → ℕ
sp_in m = sp_of m.mem
