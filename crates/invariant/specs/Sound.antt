-- Document 01, "The state" and number 4, with the bytes of document 02, No. 1 and 2, said of a machine: every field is in its range, for a ROM of n
-- bytes. A state that a run accepts holds such a machine, and every step leaves one, so that what a call left is accepted again.
-- Assumes nothing.
use Rattle.std.specs.Prelude.{ℕ, ◌≤◌, ◌<◌, ◌^◌, ◌≡◌, true, List, length, get_or}
use Rattle.pins.specs.Pins.{pin_count, nibble}
use Rattle.chip.specs.declared.Cpu.{Cpu}
use Rattle.chip.specs.declared.Machine.{Machine}
use Rattle.chip.specs.Reset.{held_cycles}
use Rattle.chip.specs.State.{nibbles}
use Rattle.image.specs.Image.{nibble_fits}
use Rattle.fetch.specs.declared.Code.{Code}

-- every element is a byte
abbrev pub Bytes : List ℕ → Type 0
Bytes s = (i : ℕ) → get_or s i 0 < 256

-- the first byte of every code is a byte
abbrev pub CodeBytes : (ℕ → Code) → Type 0
CodeBytes src = (p : ℕ) → (src p).b0 < 256

-- the nibbles: 640, each at most 15, F80H even
pub record SoundMem (l : List ℕ) : Type 0 where
  pub long : length l ≡ nibbles
  pub fit : (i : ℕ) → i < nibbles → nibble_fits i (get_or l i 0) ≡ true

-- the pins of P0 to P6, a nibble each, absent pins 0
pub record SoundPins (pins : ℕ) : Type 0 where
  pub most : pins < 268435456
  pub present : (k : ℕ) → k < 7 → nibble pins k < 2 ^ pin_count k

pub record SoundCpu (n : ℕ) (c : Cpu) : Type 0 where
  pub pc : c.pc < n
  pub smb : c.smb ≤ 15
  pub srb : c.srb ≤ 3
  pub mode : c.mode ≤ 2
  pub effect : c.effect ≤ 3
  pub release : c.release ≤ 2
  pub pins : SoundPins c.pins
  pub clock : c.clock ≤ 4294967295
  pub cursor : c.cursor ≤ 4294967295
  pub timing : c.timing.basic ≤ 32767
  pub hold : c.timing.hold ≤ held_cycles

pub record Sound (n : ℕ) (m : Machine) : Type 0 where
  pub mem : SoundMem m.mem
  pub cpu : SoundCpu n m.cpu
