-- Bounds that the code of a step's clocks rests on: an outcome takes few cycles, so that BCNT overflows at most once in a step. A helper.
-- Assumes nothing.
use Rattle.std.specs.Prelude.{ℕ, ◌*◌, ◌<◌, Bool, true, false, List, ◌≡◌}
use Rattle.chip.specs.declared.Machine.{Machine}
use Rattle.effects.specs.declared.Effect.{Effect}
use Rattle.timers.specs.declared.Timers.{Timers}
use Rattle.timers.specs.declared.Passed.{Passed}
use Rattle.timers.specs.declared.Passed.TheVariants.{On, Reset}
use Rattle.timers.specs.Clock.{phases}
use Rattle.timers.specs.Registers.{stored_in, basic_of}
use Rattle.timers.specs.Closed.{still_of}
use Rattle.elapse.specs.declared.Clocked.{Clocked}
use Rattle.elapse.specs.Elapsed.{clears}

-- more cycles, and more oscillator clocks, than a step has
abbrev pub most_cycles : ℕ
most_cycles = 128

abbrev pub most_clocks : ℕ
most_clocks = 64 * most_cycles

-- the timers' bytes from which on the watchdog's count is 7
abbrev pub last_count : ℕ
last_count = 7 * phases

-- what the clocks come to, as the code carries it on: the nibbles l become k
abbrev pub timers_on : Passed → Timers
timers_on (On t) = t
timers_on (Reset t) = t

abbrev pub resets : Passed → Bool
resets (On t) = false
resets (Reset t) = true

pub record ClockedAs (p : Passed) (l : List ℕ) (r : Clocked) (k : List ℕ) : Type 0 where
  pub mem : k ≡ stored_in l (timers_on p)
  pub timing : r.basic ≡ basic_of (timers_on p)
  pub bitten : r.bitten ≡ resets p

-- n clocks of the step with the effect e that left m move the phase alone
pub record Stays (was : ℕ) (e : Effect) (m : Machine) (n : ℕ) : Type 0 where
  pub still : still_of m.mem m.cpu.timing.basic n ≡ true
  pub counted : clears was e m ≡ true → m.cpu.timing.basic < phases
