-- The scalars of document 01, "The state", and of document 02, No. 1 and 2, with one of them changed: a definition names what it changes and keeps the rest.
-- Assumes nothing.
use Rattle.std.specs.Prelude.{ℕ}
use Rattle.chip.specs.declared.Cpu.{Cpu}
use Rattle.chip.specs.declared.Timing.{Timing}

abbrev pub with_pc : Cpu → ℕ → Cpu
with_pc c x = record { pc = x; smb = c.smb; srb = c.srb; mode = c.mode; effect = c.effect; release = c.release; pins = c.pins; clock = c.clock; cursor = c.cursor; timing = c.timing }

abbrev pub with_smb : Cpu → ℕ → Cpu
with_smb c x = record { pc = c.pc; smb = x; srb = c.srb; mode = c.mode; effect = c.effect; release = c.release; pins = c.pins; clock = c.clock; cursor = c.cursor; timing = c.timing }

abbrev pub with_srb : Cpu → ℕ → Cpu
with_srb c x = record { pc = c.pc; smb = c.smb; srb = x; mode = c.mode; effect = c.effect; release = c.release; pins = c.pins; clock = c.clock; cursor = c.cursor; timing = c.timing }

abbrev pub with_mode : Cpu → ℕ → Cpu
with_mode c x = record { pc = c.pc; smb = c.smb; srb = c.srb; mode = x; effect = c.effect; release = c.release; pins = c.pins; clock = c.clock; cursor = c.cursor; timing = c.timing }

abbrev pub with_effect : Cpu → ℕ → Cpu
with_effect c x = record { pc = c.pc; smb = c.smb; srb = c.srb; mode = c.mode; effect = x; release = c.release; pins = c.pins; clock = c.clock; cursor = c.cursor; timing = c.timing }

abbrev pub with_release : Cpu → ℕ → Cpu
with_release c x = record { pc = c.pc; smb = c.smb; srb = c.srb; mode = c.mode; effect = c.effect; release = x; pins = c.pins; clock = c.clock; cursor = c.cursor; timing = c.timing }

abbrev pub with_pins : Cpu → ℕ → Cpu
with_pins c x = record { pc = c.pc; smb = c.smb; srb = c.srb; mode = c.mode; effect = c.effect; release = c.release; pins = x; clock = c.clock; cursor = c.cursor; timing = c.timing }

abbrev pub with_clock : Cpu → ℕ → Cpu
with_clock c x = record { pc = c.pc; smb = c.smb; srb = c.srb; mode = c.mode; effect = c.effect; release = c.release; pins = c.pins; clock = x; cursor = c.cursor; timing = c.timing }

abbrev pub with_cursor : Cpu → ℕ → Cpu
with_cursor c x = record { pc = c.pc; smb = c.smb; srb = c.srb; mode = c.mode; effect = c.effect; release = c.release; pins = c.pins; clock = c.clock; cursor = x; timing = c.timing }

abbrev pub with_timing : Cpu → Timing → Cpu
with_timing c x = record { pc = c.pc; smb = c.smb; srb = c.srb; mode = c.mode; effect = c.effect; release = c.release; pins = c.pins; clock = c.clock; cursor = c.cursor; timing = x }

-- what the basic timer keeps, and what remains of the hold
abbrev pub with_basic : Cpu → ℕ → Cpu
with_basic c x = with_timing c (record { basic = x; hold = c.timing.hold })

abbrev pub with_hold : Cpu → ℕ → Cpu
with_hold c x = with_timing c (record { basic = c.timing.basic; hold = x })
