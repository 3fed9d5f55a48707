-- CPU and program control, Tables 5-9, 5-10, 5-15 and 5-16: jumps, calls, returns, EI, DI, IDLE, STOP, SMB, SRB. n is the address after the
-- instruction; a next address is taken modulo N by the step.
-- Assumes nothing.
use Rattle.std.specs.Prelude.{ℕ, ◌+◌, ◌-◌, ◌*◌, ◌%◌, ◌/◌, List, [], ◌∷◌}
use Rattle.chip.specs.declared.Cpu.{Cpu}
use Rattle.chip.specs.declared.Machine.{Machine}
use Rattle.chip.specs.State.{nib_at, nibble_at, slot_of}
use Rattle.chip.specs.Memory.{write_to}
use Rattle.registers.specs.Registers.{stack_at, sp_low, sp_high}
use Rattle.effects.specs.declared.Effect.{Effect}
use Rattle.effects.specs.Effects.{no_skip, doing, writes, selecting, pushing}
use Rattle.effects.specs.Operands.{sp_in}

unfoldable pub jump : Cpu → ℕ → Effect
jump c a = doing c a no_skip 0 []

-- JR #im at address p: forward to p + 1 + a, back to p - a
abbrev pub forward_of : ℕ → ℕ → ℕ
forward_of p a = p % 4096 + 1 + a

abbrev pub back_of : ℕ → ℕ → ℕ
back_of p a = p % 4096 + 4096 - a

-- the page of the address after the instruction, for JR @WX, JR @EA and LDC
abbrev pub page_of : ℕ → ℕ → ℕ
page_of n v = n / 256 * 256 + v

-- CALL keeps EMB and ERB of FB0H; CALLS keeps PC10-8 of the return address
unfoldable pub call_to : Machine → ℕ → ℕ → Effect
call_to m back a = pushing m.cpu a back (nibble_at m.mem 0xFB0 % 4) []

-- the address that RET, SRET and IRET return to: SP+1 bits 1-0, SP, SP+3, SP+2
unfoldable pub return_of : List ℕ → ℕ → ℕ
return_of l s =
    4096 * (nib_at l (stack_at s 1) % 4) + 256 * nib_at l (stack_at s 0) + 16 * nib_at l (stack_at s 3) + nib_at l (stack_at s 2)

-- RET and SRET take EMB and ERB and leave the rest; SRET skips
unfoldable pub return_from : Machine → ℕ → Effect
return_from m skip =
    doing m.cpu (return_of m.mem (sp_in m)) skip 0
    (sp_low (sp_in m + 6) ∷ sp_high (sp_in m + 6) ∷ write_to (slot_of 0xFB0) (nibble_at m.mem 0xFB0 / 4 * 4 + nib_at m.mem (stack_at (sp_in m) 4) % 4) ∷ [])

-- IRET takes FB0H and FB1H whole
unfoldable pub interrupt_return : Machine → Effect
interrupt_return m =
    writes m (return_of m.mem (sp_in m))
    (sp_low (sp_in m + 6) ∷ sp_high (sp_in m + 6) ∷ write_to (slot_of 0xFB0) (nib_at m.mem (stack_at (sp_in m) 4)) ∷
    write_to (slot_of 0xFB1) (nib_at m.mem (stack_at (sp_in m) 5)) ∷ [])

-- EI and DI: IME is FB2H bit 3
unfoldable pub set_ime : Machine → ℕ → ℕ → Effect
set_ime m n v = writes m n (write_to (slot_of 0xFB2) (nibble_at m.mem 0xFB2 % 8 + 8 * v) ∷ [])

unfoldable pub set_mode : Cpu → ℕ → ℕ → Effect
set_mode c n v = selecting n c.smb c.srb v []

-- SMB has four bits, SRB two
unfoldable pub set_smb : Cpu → ℕ → ℕ → Effect
set_smb c n v = selecting n (v % 16) c.srb c.mode []

unfoldable pub set_srb : Cpu → ℕ → ℕ → Effect
set_srb c n v = selecting n c.smb (v % 4) c.mode []
