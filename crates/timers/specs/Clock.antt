-- Document 02, No. 1, and chapter 11, "Basic Timer": one oscillator clock of the basic timer and its watchdog, and n of them one after the other.
-- Assumes nothing.
use Rattle.std.specs.Prelude.{ℕ, zero, suc, ◌+◌, ◌*◌, ◌%◌, ◌^◌, ◌<◌, Bool, true, cond, not, ◌&&◌, ◌≡◌, eqb, leb}
use Rattle.timers.specs.declared.Timers.{Timers}
use Rattle.timers.specs.declared.Passed.{Passed}
use Rattle.timers.specs.declared.Passed.TheVariants.{On, Reset}
use Rattle.timers.specs.Taps.{tap_of}

-- the divider's phases, BCNT's values, and the watchdog's counts
abbrev pub phases : ℕ
phases = 4096

abbrev pub counter_values : ℕ
counter_values = 256

abbrev pub watchdog_counts : ℕ
watchdog_counts = 8

-- the low k bits of a phase wrap to 0 with its next clock
abbrev pub wraps : ℕ → ℕ → Bool
wraps k phase = eqb ((phase + 1) % 2 ^ k) 0

-- what the next clock does: BCNT counts; it overflows, from FFH to 00H; with that the watchdog's count overflows, from 7
abbrev pub counts : Timers → Bool
counts t = wraps (tap_of t.bmod) t.phase

abbrev pub overflows : Timers → Bool
overflows t = counts t && eqb t.bcnt 255

abbrev pub bites : Timers → Bool
bites t = overflows t && (t.watched && eqb t.count 7)

-- the timers after the clock
unfoldable pub clocked : Timers → Timers
clocked t = record {
  bmod = t.bmod;
  bcnt = cond (counts t) ((t.bcnt + 1) % counter_values) t.bcnt;
  watched = t.watched;
  irqb = cond (overflows t) 1 t.irqb;
  phase = (t.phase + 1) % phases;
  count = cond (overflows t && t.watched) ((t.count + 1) % watchdog_counts) t.count;
}

-- ONE OSCILLATOR CLOCK: on, or the watchdog resets the chip
unfoldable pub clock_of : Timers → Passed
clock_of t = cond (bites t) (Reset (clocked t)) (On (clocked t))

-- the clocks still to pass are dropped where the chip was reset
abbrev pub and_then : Passed → (Timers → Passed) → Passed
and_then (On t) f = f t
and_then (Reset t) f = Reset t

-- N OSCILLATOR CLOCKS
unfoldable pub clocks_of : ℕ → Timers → Passed
clocks_of zero t = On t
clocks_of (suc n) t = and_then (clock_of t) (clocks_of n)

-- none of the next n clocks brings a timer event, which a stretch of idle or held cycles may not pass: an overflow of BCNT
unfoldable pub quiet_of : ℕ → Timers → Bool
quiet_of zero t = true
quiet_of (suc n) t = not (overflows t) && quiet_of n (clocked t)

-- at most q cycles of r clocks each are quiet, and no more
abbrev pub QuietCycles : ℕ → ℕ → Timers → Type 0
QuietCycles q r t = (c : ℕ) → quiet_of (c * r) t ≡ leb c q

-- the fields' ranges: an 8-bit register, a flag, and bits 0-11 and 12-14 of the bytes at 662
pub record Ranged (t : Timers) : Type 0 where
  pub bmod : t.bmod < 16
  pub bcnt : t.bcnt < counter_values
  pub irqb : t.irqb < 2
  pub phase : t.phase < phases
  pub count : t.count < watchdog_counts
