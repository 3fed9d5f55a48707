-- Chapter 11, Table 11-2, whose column "Oscillation Stabilization" is the interval of 256 counts, and Table 11-3, "Watch-Dog Timer Interval Time": what it
-- means that a request or a reset comes with a clock. proofs/Intervals.antt has the tables' rows as theorems.
-- Assumes nothing.
use Rattle.std.specs.Prelude.{ℕ, ◌*◌, ◌^◌, ◌≤◌, ◌<◌, Bool, true, false, ◌≡◌}
use Rattle.timers.specs.declared.Timers.{Timers}
use Rattle.timers.specs.declared.Passed.{Passed}
use Rattle.timers.specs.declared.Passed.TheVariants.{On, Reset}
use Rattle.timers.specs.Taps.{tap_of}
use Rattle.timers.specs.Clock.{counter_values, clocks_of, Ranged}

-- the oscillator clocks from one overflow of BCNT to the next
abbrev pub interval_of : Timers → ℕ
interval_of t = counter_values * 2 ^ tap_of t.bmod

-- the timers that some clocks come to, and whether the chip wasn't reset in them
abbrev pub held_in : Passed → Timers
held_in (On t) = t
held_in (Reset t) = t

abbrev pub runs_on : Passed → Bool
runs_on (On t) = true
runs_on (Reset t) = false

-- timers that start an interval: the divider and BCNT at 0
pub record Starting (t : Timers) : Type 0 where
  pub ranged : Ranged t
  pub phase : t.phase ≡ 0
  pub bcnt : t.bcnt ≡ 0

-- IRQB is set with clock n, and not before
pub record RequestsAt (n : ℕ) (t : Timers) : Type 0 where
  pub not_before : (k : ℕ) → k < n → (held_in (clocks_of k t)).irqb ≡ 0
  pub then : (held_in (clocks_of n t)).irqb ≡ 1

-- the chip is reset with clock n, and not before
pub record ResetsAt (n : ℕ) (t : Timers) : Type 0 where
  pub not_before : (k : ℕ) → k < n → runs_on (clocks_of k t) ≡ true
  pub then : (k : ℕ) → n ≤ k → runs_on (clocks_of k t) ≡ false
