-- Document 01, "Calls": the table-driven run "may pass a whole idle stretch in one go, with the same count". How many steps of idle or stop
-- mode, or of the hold of document 02, No. 2, pass in one go: none of them meets a record that is due, a source that releases, or the clock's end;
-- document 02, No. 1: "The idle stretch ends at a timer event too", an overflow of BCNT.
-- Assumes nothing.
use Rattle.std.specs.Prelude.{ℕ, ◌+◌, ◌-◌, ◌*◌, ◌/◌, Bool, cond, ◌&&◌, eqb, ltb}
use Rattle.chip.specs.declared.Cpu.{Cpu}
use Rattle.chip.specs.declared.Machine.{Machine}
use Rattle.chip.specs.Modes.{running}
use Rattle.chip.specs.Scalars.{with_clock, with_hold}
use Rattle.chip.specs.State.{at}
use Rattle.timers.specs.Rates.{rate_of}
use Rattle.timers.specs.Registers.{timers_of, with_timers}
use Rattle.timers.specs.Closed.{quiet_state_of, overflow_at}
use Rattle.pending.specs.Pending.{wakes_of}
use Rattle.fetch.specs.declared.Origin.{Origin}
use Rattle.fetch.specs.declared.Origin.TheVariants.{Rom, Table}
use Rattle.step.specs.Step.{last_clock}

-- the scalars after n cycles, but for the timers': where less of the hold remains, none does after them
abbrev pub later_of : Cpu → ℕ → Cpu
later_of c n = with_hold (with_clock c (c.clock + n)) (c.timing.hold - n)

-- the machine after n cycles in one go
unfoldable pub passed_of : Machine → ℕ → Machine
passed_of m n = with_timers (at m.mem (later_of m.cpu n)) (quiet_state_of (n * rate_of m) (timers_of m))

-- the cycles before the one in which BCNT overflows; in stop mode no clock passes
unfoldable pub calm_of : Machine → ℕ
calm_of m = cond (eqb (rate_of m) 0) last_clock ((overflow_at (timers_of m) - 1) / rate_of m)

-- the cycles up to the due time of the next record, or to the clock's end
abbrev pub until_of : ℕ → ℕ → ℕ
until_of clock due = cond (ltb last_clock due) (last_clock - clock) (due - clock)

abbrev pub least_of : ℕ → ℕ → ℕ
least_of a b = cond (ltb a b) a b

-- of at most `left` steps, those in which the CPU does nothing: what remains of the hold, or any number in idle or stop mode where no source releases
unfoldable pub asleep_of : Machine → ℕ → ℕ
asleep_of m left = cond (eqb m.cpu.timing.hold 0) (cond (wakes_of m.mem) 0 left) (least_of left m.cpu.timing.hold)

-- those of them before the next record, the clock's end and the next timer event
unfoldable pub idle_steps : Machine → ℕ → ℕ → ℕ
unfolding asleep_of calm_of
idle_steps m due left = least_of (asleep_of m left) (least_of (until_of m.cpu.clock due) (calm_of m))

-- the plain machine makes one step after another
unfoldable pub by_origin : Origin → Machine → ℕ → ℕ → ℕ
unfolding idle_steps
by_origin Rom m due left = 0
by_origin Table m due left = idle_steps m due left

-- neither held nor in idle or stop mode
abbrev pub awake_of : Cpu → Bool
awake_of c = eqb c.timing.hold 0 && eqb c.mode running

unfoldable pub stretch_of : Origin → Machine → ℕ → ℕ → ℕ
unfolding by_origin
stretch_of origin m due left = cond (awake_of m.cpu) 0 (by_origin origin m due left)
