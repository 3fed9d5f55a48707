-- Chapter 5: what of the machine's scalars an instruction can see.
-- Assumes nothing.
use Rattle.std.specs.Prelude.{ℕ}
use Rattle.chip.specs.declared.Cpu.{Cpu}
use Rattle.chip.specs.Reset.{zero_timing}

-- the scalars that an instruction can see: not the release count, the clock, the cursor, what the basic timer keeps and what remains of the hold
abbrev pub facing : ℕ → ℕ → ℕ → ℕ → ℕ → ℕ → Cpu
facing pc smb srb mode effect pins =
    record { pc = pc; smb = smb; srb = srb; mode = mode; effect = effect; release = 0; pins = pins; clock = 0; cursor = 0; timing = zero_timing }
