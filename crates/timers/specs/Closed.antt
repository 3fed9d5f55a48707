-- The same without a step for each clock: what n clocks come to. Nothing here has to be believed: proofs/ shows it equal to Clock.antt.
-- Assumes nothing.
use Rattle.std.specs.Prelude.{ℕ, ◌+◌, ◌-◌, ◌*◌, ◌%◌, ◌/◌, ◌^◌, Bool, cond, ◌&&◌, List, eqb, ltb, leb}
use Rattle.timers.specs.declared.Timers.{Timers}
use Rattle.timers.specs.Taps.{tap_of}
use Rattle.timers.specs.Clock.{phases, counter_values, watchdog_counts}
use Rattle.timers.specs.Registers.{bmod_of}

-- how often the low k bits of a phase wrap in n clocks
abbrev pub ticks : ℕ → ℕ → ℕ → ℕ
ticks k phase n = (phase + n) / 2 ^ k - phase / 2 ^ k

-- the clock with which the low k bits have wrapped y times
abbrev pub reach : ℕ → ℕ → ℕ → ℕ
reach k phase y = (phase / 2 ^ k + y) * 2 ^ k - phase

-- BCNT if it went on past 255
unfoldable pub total_of : ℕ → Timers → ℕ
total_of n t = t.bcnt + ticks (tap_of t.bmod) t.phase n

-- IRQB and the watchdog's count, where BCNT would come to c
abbrev pub irqb_after : ℕ → ℕ → ℕ
irqb_after irqb c = cond (ltb c counter_values) irqb 1

abbrev pub count_after : Bool → ℕ → ℕ → ℕ
count_after watched count c = cond watched ((count + c / counter_values) % watchdog_counts) count

-- the timers after n clocks, resets left out
unfoldable pub state_of : ℕ → Timers → Timers
state_of n t = record {
  bmod = t.bmod;
  bcnt = total_of n t % counter_values;
  watched = t.watched;
  irqb = irqb_after t.irqb (total_of n t);
  phase = (t.phase + n) % phases;
  count = count_after t.watched t.count (total_of n t);
}

-- the watchdog's count overflows within n clocks, and with which clock
unfoldable pub bitten_of : ℕ → Timers → Bool
unfolding total_of
bitten_of n t = t.watched && leb watchdog_counts (t.count + total_of n t / counter_values)

unfoldable pub bite_at : Timers → ℕ
bite_at t = reach (tap_of t.bmod) t.phase (counter_values * (watchdog_counts - t.count) - t.bcnt)

-- the clock with which BCNT overflows
unfoldable pub overflow_at : Timers → ℕ
overflow_at t = reach (tap_of t.bmod) t.phase (counter_values - t.bcnt)

-- the timers after n clocks with no overflow: the phase and BCNT move, and nothing else
unfoldable pub quiet_state_of : ℕ → Timers → Timers
quiet_state_of n t = record {
  bmod = t.bmod;
  bcnt = total_of n t;
  watched = t.watched;
  irqb = t.irqb;
  phase = (t.phase + n) % phases;
  count = t.count;
}

-- n clocks of a machine with the nibbles l, whose timers' bytes are w, move the phase alone: BMOD.3 stands at 0, and BCNT doesn't count
unfoldable pub still_of : List ℕ → ℕ → ℕ → Bool
still_of l w n = ltb (bmod_of l) 8 && eqb ((w + n) / 2 ^ tap_of (bmod_of l)) (w / 2 ^ tap_of (bmod_of l))
