-- Data transfer, Tables 5-11 and 5-17: PUSH and POP. n is the address after the instruction.
-- Assumes nothing.
use Rattle.std.specs.Prelude.{ℕ, ◌+◌, ◌%◌, [], ◌∷◌}
use Rattle.chip.specs.declared.Cpu.{Cpu}
use Rattle.chip.specs.declared.Machine.{Machine}
use Rattle.chip.specs.State.{nib_at}
use Rattle.chip.specs.Memory.{write_to}
use Rattle.registers.specs.Registers.{stack_at, sp_low, sp_high}
use Rattle.effects.specs.declared.Effect.{Effect}
use Rattle.effects.specs.Effects.{no_skip, doing, writes, selecting}
use Rattle.effects.specs.Operands.{reg_in, to_reg, sp_in}

-- PUSH: SP-1 the high nibble, SP-2 the low one; s is the new stack pointer
abbrev pub push_two : Cpu → ℕ → ℕ → ℕ → ℕ → Effect
push_two c n s low high = doing c n no_skip 0 (write_to (stack_at s 0) low ∷ write_to (stack_at s 1) high ∷ sp_low s ∷ sp_high s ∷ [])

unfoldable pub push_pair : Machine → ℕ → ℕ → Effect
push_pair m n r = push_two m.cpu n ((sp_in m + 254) % 256) (reg_in m r) (reg_in m (r % 8 + 1))

-- PUSH SB: SRB below SMB
unfoldable pub push_sb : Machine → ℕ → Effect
push_sb m n = push_two m.cpu n ((sp_in m + 254) % 256) m.cpu.srb m.cpu.smb

-- POP: the registers, then SP
unfoldable pub pop_pair : Machine → ℕ → ℕ → Effect
pop_pair m n r =
    writes m n
    (to_reg m r (nib_at m.mem (stack_at (sp_in m) 0)) ∷ to_reg m (r % 8 + 1) (nib_at m.mem (stack_at (sp_in m) 1)) ∷ sp_low (sp_in m + 2) ∷
    sp_high (sp_in m + 2) ∷ [])

-- POP SB: SRB modulo 4, SMB as popped
unfoldable pub pop_sb : Machine → ℕ → Effect
pop_sb m n =
    selecting n (nib_at m.mem (stack_at (sp_in m) 1)) (nib_at m.mem (stack_at (sp_in m) 0) % 4) m.cpu.mode
    (sp_low (sp_in m + 2) ∷ sp_high (sp_in m + 2) ∷ [])
