-- Chapter 9, Table 9-1, "Hardware Register Values After RESET", with document 01: what the table calls undefined is kept, and 0F8H-0FDH
-- become 0. A line for each location that a reset writes. Kept: C, SP, the rest of RAM, BCNT, CMPREG, SBUF, and FF1H and FF2H, which
-- have no latch. The vector layout of chapter 2 gives PC11-8, EMB and ERB. Document 02, No. 1 and 2, say what a reset makes of the bytes behind the
-- base's state.
-- Assumes nothing.
use Rattle.std.specs.Prelude.{ℕ, ◌+◌, ◌*◌, ◌%◌, ◌/◌, List, [], ◌∷◌, set, replicate}
use Rattle.chip.specs.declared.Cpu.{Cpu}
use Rattle.chip.specs.declared.Machine.{Machine}
use Rattle.chip.specs.declared.Timing.{Timing}
use Rattle.chip.specs.State.{nibbles, nibble_at, at, slot_of, wrap_of}
use Rattle.chip.specs.Memory.{write_to, put_of}

-- a location takes a value, as a write of Memory.antt
abbrev pub gets : ℕ → ℕ → ℕ
gets a v = write_to (slot_of a) v

unfoldable pub table_9_1 : List ℕ
table_9_1 =
    gets 0x0F8 0 ∷ gets 0x0F9 0 ∷ gets 0x0FA 0 ∷ gets 0x0FB 0 ∷ gets 0x0FC 0 ∷ gets 0x0FD 0 ∷  -- the note below the table
    gets 0xFC0 0 ∷ gets 0xFC1 0 ∷ gets 0xFC2 0 ∷ gets 0xFC3 0 ∷  -- BSC0 to BSC3
    gets 0xFB3 0 ∷  -- PCON
    gets 0xFD0 0 ∷  -- CLMOD
    gets 0xFB8 0 ∷ gets 0xFBA 0 ∷ gets 0xFBC 0 ∷ gets 0xFBD 0 ∷ gets 0xFBE 0 ∷ gets 0xFBF 0 ∷  -- IEx, IRQx
    gets 0xFB2 0 ∷  -- IPR, IME
    gets 0xFB4 0 ∷ gets 0xFB5 0 ∷ gets 0xFB6 0 ∷  -- IMOD0, IMOD1, IMODK
    gets 0xFF0 0 ∷ gets 0xFF3 0 ∷ gets 0xFF4 0 ∷ gets 0xFF5 0 ∷ gets 0xFF6 0 ∷  -- output latches
    gets 0xFE8 0 ∷ gets 0xFE9 0 ∷ gets 0xFEA 0 ∷ gets 0xFEB 0 ∷ gets 0xFEC 0 ∷ gets 0xFED 0 ∷  -- port mode flags
    gets 0xFDC 0 ∷ gets 0xFDD 0 ∷  -- PUMOD
    gets 0xFE2 0 ∷  -- P2MOD
    gets 0xFDA 0 ∷ gets 0xFDB 0 ∷  -- PNE
    gets 0xF98 5 ∷ gets 0xF99 10 ∷  -- WDMOD
    gets 0xF9A 0 ∷  -- WDTCF
    gets 0xF85 0 ∷  -- BMOD
    gets 0xF94 0 ∷ gets 0xF95 0 ∷  -- TCNT0
    gets 0xF96 15 ∷ gets 0xF97 15 ∷  -- TREF0
    gets 0xF90 0 ∷ gets 0xF91 0 ∷  -- TMOD0
    gets 0xF92 0 ∷  -- TOE0
    gets 0xF88 0 ∷ gets 0xF89 0 ∷  -- WMOD
    gets 0xFD6 0 ∷ gets 0xFD7 0 ∷  -- CMOD
    gets 0xFE0 0 ∷ gets 0xFE1 0 ∷  -- SMOD
    []

-- the nibbles after writes in turn
unfoldable pub with_values : List ℕ → List ℕ → List ℕ
with_values l [] = l
with_values l (x ∷ xs) = with_values (put_of l x) xs

-- a vector: EMB and ERB in bits 7 and 6 of its first byte, PC11-8 in bits 3 to 0, PC7-0 in its second byte
abbrev pub vector_flags : ℕ → ℕ
vector_flags b0 = b0 / 64

abbrev pub vector_pc : ℕ → ℕ → ℕ → ℕ
vector_pc n b0 b1 = wrap_of n (256 * (b0 % 16) + b1)

unfoldable pub reset_registers : List ℕ → List ℕ
unfolding with_values
reset_registers l = with_values l table_9_1

-- FB1H keeps C and clears SC2 to SC0; FB0H clears IS1 and IS0 and takes EMB and ERB from the vector
unfoldable pub reset_status : List ℕ → ℕ → List ℕ
reset_status l b0 = set (set l (slot_of 0xFB1) (nibble_at l 0xFB1 / 8 * 8)) (slot_of 0xFB0) (vector_flags b0)

-- the nibbles after a reset, b0 the byte at 0000H
unfoldable pub reset_mem : List ℕ → ℕ → List ℕ
unfolding reset_registers reset_status
reset_mem l b0 = reset_status (reset_registers l) b0

-- document 02, No. 2: "After every reset the CPU is held for 2,048 cycles"
abbrev pub held_cycles : ℕ
held_cycles = 2048

-- what goes on by time is 0, and after a reset the timers' alone (document 02, No. 1)
abbrev pub zero_timing : Timing
zero_timing = record { basic = 0; hold = 0 }

abbrev pub reset_timing : Timing
reset_timing = record { basic = 0; hold = held_cycles }

-- the scalars after a reset: clock, cursor and pins are kept
abbrev pub reset_cpu : Cpu → ℕ → ℕ → ℕ → Cpu
reset_cpu c n b0 b1 =
    record {
      pc = vector_pc n b0 b1;
      smb = 0;
      srb = 0;
      mode = 0;
      effect = 0;
      release = 0;
      pins = c.pins;
      clock = c.clock;
      cursor = c.cursor;
      timing = reset_timing;
    }

-- scalars that are all 0
abbrev pub zero_cpu : Cpu
zero_cpu = record { pc = 0; smb = 0; srb = 0; mode = 0; effect = 0; release = 0; pins = 0; clock = 0; cursor = 0; timing = zero_timing }

-- a fresh state is all 0, then reset; b0 and b1 are the first bytes of the ROM
unfoldable pub fresh_of : ℕ → ℕ → ℕ → Machine
unfolding reset_mem
fresh_of n b0 b1 = at (reset_mem (replicate nibbles 0) b0) (reset_cpu zero_cpu n b0 b1)
