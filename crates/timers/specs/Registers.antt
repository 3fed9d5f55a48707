-- Chapter 11, Table 11-1, "Basic Timer Register Overview", and document 02, No. 1: where a machine holds its basic timer and watchdog. BMOD stands at
-- F85H, BCNT at F86H and F87H, WDMOD at F98H and F99H, IRQB in bit 0 of FB8H; of the two bytes at 662, bits 0-11 are the divider's phase and
-- bits 12-14 the watchdog's count.
-- Assumes nothing.
use Rattle.std.specs.Prelude.{ℕ, ◌+◌, ◌*◌, ◌%◌, ◌/◌, Bool, cond, not, List, eqb, set}
use Rattle.chip.specs.declared.Machine.{Machine}
use Rattle.chip.specs.Scalars.{with_basic}
use Rattle.chip.specs.State.{at, nibble_at, slot_of}
use Rattle.timers.specs.declared.Timers.{Timers}
use Rattle.timers.specs.Clock.{phases, watchdog_counts}

abbrev pub bmod_of : List ℕ → ℕ
bmod_of l = nibble_at l 0xF85

abbrev pub bcnt_of : List ℕ → ℕ
bcnt_of l = nibble_at l 0xF86 + 16 * nibble_at l 0xF87

abbrev pub irqb_of : List ℕ → ℕ
irqb_of l = nibble_at l 0xFB8 % 2

-- the watchdog counts unless WDMOD is 5AH
abbrev pub watched_in : List ℕ → Bool
watched_in l = not (eqb (nibble_at l 0xF98 + 16 * nibble_at l 0xF99) 0x5A)

abbrev pub phase_in : ℕ → ℕ
phase_in w = w % phases

abbrev pub count_in : ℕ → ℕ
count_in w = w / phases % watchdog_counts

-- the timers of the nibbles l and of the number w in the two bytes
unfoldable pub timers_in : List ℕ → ℕ → Timers
timers_in l w = record {
  bmod = bmod_of l;
  bcnt = bcnt_of l;
  watched = watched_in l;
  irqb = irqb_of l;
  phase = phase_in w;
  count = count_in w;
}

abbrev pub timers_of : Machine → Timers
timers_of m = timers_in m.mem m.cpu.timing.basic

-- the nibbles with another value of a register; a register that stands is not written
abbrev pub with_bmod : List ℕ → ℕ → List ℕ
with_bmod l b = cond (eqb b (bmod_of l)) l (set l (slot_of 0xF85) b)

abbrev pub with_bcnt : List ℕ → ℕ → List ℕ
with_bcnt l b = cond (eqb b (bcnt_of l)) l (set (set l (slot_of 0xF86) (b % 16)) (slot_of 0xF87) (b / 16))

abbrev pub with_irqb : List ℕ → ℕ → List ℕ
with_irqb l b = cond (eqb b (irqb_of l)) l (set l (slot_of 0xFB8) (nibble_at l 0xFB8 / 2 * 2 + b))

-- the bytes of a phase and a watchdog's count
abbrev pub basic_of : Timers → ℕ
basic_of t = t.phase + phases * t.count

-- the nibbles with their timers as t has them
unfoldable pub stored_in : List ℕ → Timers → List ℕ
stored_in l t = with_irqb (with_bcnt (with_bmod l t.bmod) t.bcnt) t.irqb

-- and the machine
abbrev pub with_timers : Machine → Timers → Machine
with_timers m t = at (stored_in m.mem t) (with_basic m.cpu (basic_of t))
