-- Document 02, No. 1: what passes after a step's rules: "Each cycle advances 4, 8 or 64 oscillator clocks as PCON says .., none in stop mode; they pass
-- after the step's rules, by PCON and mode as its records left them. .. A reset makes them 0; the watchdog's also drops the step's oscillator clocks still
-- to pass." Before them BMOD.3, WDTCF and STOP clear what chapter 11 says. In the hold of No. 2 its cycle takes the rules' place: "the timers going by
-- No. 1's rule".
-- Assumes nothing.
use Rattle.std.specs.Prelude.{ℕ, ◌*◌, ◌/◌, Bool, ◌&&◌, ◌||◌, List, eqb}
use Rattle.chip.specs.declared.Machine.{Machine}
use Rattle.chip.specs.Modes.{running, stopped}
use Rattle.chip.specs.Reset.{reset_mem, reset_cpu}
use Rattle.chip.specs.State.{at, nibble_at, slot_of}
use Rattle.fetch.specs.declared.Code.{Code}
use Rattle.effects.specs.declared.Effect.{Effect}
use Rattle.effects.specs.Effects.{writes_in, writes_of}
use Rattle.timers.specs.declared.Timers.{Timers}
use Rattle.timers.specs.declared.Passed.{Passed}
use Rattle.timers.specs.declared.Passed.TheVariants.{On, Reset}
use Rattle.timers.specs.Rates.{rate_of}
use Rattle.timers.specs.Clock.{clocks_of}
use Rattle.timers.specs.Clears.{cleared_of}
use Rattle.timers.specs.Registers.{timers_of, with_timers}

-- whether the effect e, which left the nibbles l, wrote a 1 to bit 3 of the location a
unfoldable pub strikes : ℕ → Effect → List ℕ → Bool
strikes a e l = writes_in (slot_of a) (writes_of e) && eqb (nibble_at l a / 8) 1

-- whether a step that found the one mode and left the other was a STOP
abbrev pub stops_in : ℕ → ℕ → Bool
stops_in was is = eqb was running && eqb is stopped

-- whether the step restarts the basic timer, by BMOD.3, and whether it clears the watchdog's count, by STOP or by WDTCF: `was` is the mode that the rules
-- found, m the machine after them
abbrev pub restarts : Effect → Machine → Bool
restarts e m = strikes 0xF85 e m.mem

abbrev pub clears : ℕ → Effect → Machine → Bool
clears was e m = stops_in was m.cpu.mode || strikes 0xF9A e m.mem

-- the timers before the clocks
unfoldable pub timed_of : ℕ → Effect → Machine → Timers
unfolding strikes
timed_of was e m = cleared_of (restarts e m) (clears was e m) (timers_of m)

-- the chip reset; v is the code at 0000H and n the ROM's length
abbrev pub reset_to : Code → ℕ → Machine → Machine
reset_to v n m = at (reset_mem m.mem v.b0) (reset_cpu m.cpu n v.b0 v.b1)

-- the machine m once its timers have come to something
abbrev pub clocked_to : Code → ℕ → Machine → Passed → Machine
clocked_to v n m (On t) = with_timers m t
clocked_to v n m (Reset t) = reset_to v n (with_timers m t)

-- k oscillator clocks after the rules, which found the mode `was`, had the effect e and left the machine m
unfoldable pub passed_by : Code → ℕ → ℕ → Effect → ℕ → Machine → Machine
unfolding timed_of
passed_by v n was e k m = clocked_to v n m (clocks_of k (timed_of was e m))

-- what passes after the rules of a step that takes t cycles: r is the machine as its records left it
unfoldable pub elapsed_of : Code → ℕ → Machine → Effect → ℕ → Machine → Machine
unfolding passed_by
elapsed_of v n r e t m = passed_by v n r.cpu.mode e (t * rate_of r) m
