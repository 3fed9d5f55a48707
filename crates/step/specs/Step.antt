-- Document 01, "One step" and "Calls", with the oscillator clocks and the hold of document 02, No. 1 and 2: a step whole. The stops, those at a code (9, 10, and 17 and 18 of No. 7), then 11, then 12, come before anything is written, the step's records too.
-- Assumes nothing.
use Rattle.std.specs.Prelude.{ℕ, ◌+◌, ◌-◌, ◌≡◌, cond, List, length, ltb, Ok}
use Rattle.chip.specs.declared.Cpu.{Cpu}
use Rattle.chip.specs.declared.Machine.{Machine}
use Rattle.numbers.specs.Numbers.{clock_stop, full_stop}
use Rattle.chip.specs.Ports.{driven_of}
use Rattle.chip.specs.Scalars.{with_clock}
use Rattle.chip.specs.State.{at}
use Rattle.fetch.specs.declared.Code.{Code}
use Rattle.effects.specs.declared.Effect.{Effect}
use Rattle.effects.specs.Effects.{applied_to}
use Rattle.portlog.specs.Log.{written, logged}
use Rattle.outcomes.specs.declared.Outcome.{Outcome}
use Rattle.outcomes.specs.declared.Outcome.TheVariants.{Stops, Does}
use Rattle.trace.specs.Trace.{scan_of}
use Rattle.step.specs.Told.{number_at}
use Rattle.step.specs.declared.Stepping.{Stepping}
use Rattle.step.specs.declared.Stepping.TheVariants.{Moved, Stopped}
use Rattle.events.specs.Records.{records_of}
use Rattle.rules.specs.Rules.{action_of}
use Rattle.elapse.specs.Elapsed.{elapsed_of}

-- what a step does: it moves to a machine and writes bytes to the log, or it stops with a number and an address
pub data Out : Type 0 where
  moved : Machine → List ℕ → Out
  stopped : ℕ → ℕ → Out

-- the clock's last value
abbrev pub last_clock : ℕ
last_clock = 4294967295

-- the machine after the rules: the effect stored, and the clock on by the step's cycles t; r is the machine as its records left it
abbrev pub ruled_of : Machine → Effect → Cpu → ℕ → Machine
ruled_of r e d t = at (applied_to r.mem e) (with_clock d (d.clock + t))

-- 12 where the step's log bytes do not fit; `was` is what the ports drove before the step
unfoldable pub logged_of : (ℕ → ℕ) → Machine → ℕ → Out
logged_of was m room =
    let w = logged m.cpu.clock was (driven_of m) in
    cond (ltb room (length w)) (stopped full_stop 0) (moved m w)

-- 11 where the clock would pass its last value; v is the code at 0000H and n the ROM's length
unfoldable pub settled_of : Code → ℕ → (ℕ → ℕ) → Machine → Outcome → ℕ → Out
unfolding logged_of elapsed_of
settled_of v n was r (Stops k p) room = stopped k p
settled_of v n was r (Does e d t) room =
    cond (ltb (last_clock - d.clock) t) (stopped clock_stop 0) (logged_of was (elapsed_of v n r e t (ruled_of r e d t)) room)

-- a step of the machine m with 9 at every undefined code: its records, its rules or a cycle of the hold, what passes after them, and the driven values compared with
-- those before the records. src is where codes come from, n the ROM's length, t the trace, room what is left of the log.
unfoldable pub untold_of : (ℕ → Code) → ℕ → List ℕ → Machine → ℕ → Out
unfolding settled_of
untold_of src n t m room =
    let r = records_of (src 0) n t m in
    settled_of (src 0) n (driven_of m) r (action_of src n r) room

-- the step, with the number of the code's kind in 9's place
abbrev pub told_of : (ℕ → Code) → Out → Out
told_of src (moved m w) = moved m w
told_of src (stopped k p) = stopped (number_at src k p) p

unfoldable pub step_of : (ℕ → Code) → ℕ → List ℕ → Machine → ℕ → Out
unfolding untold_of number_at
step_of src n t m room = told_of src (untold_of src n t m room)

-- document 01's number and values for each case of the answer; due is the due time of the record at the cursor
abbrev pub answer_of : ℕ → Out → Stepping
answer_of due (moved m w) = Moved m.cpu due (length w)
answer_of due (stopped k p) = Stopped k p

abbrev pub mem_after : Out → List ℕ → List ℕ
mem_after (moved m w) l = m.mem
mem_after (stopped k p) l = l

abbrev pub log_after : Out → List ℕ → List ℕ
log_after (moved m w) g = written g 0 w
log_after (stopped k p) g = g

-- the equation of a step that does o from the nibbles l and the log g
pub record Stepped (due : ℕ) (o : Out) (l g : List ℕ) (r : Stepping) (l' g' : List ℕ) : Type 0 where
  pub answer : r ≡ answer_of due o
  pub mem : l' ≡ mem_after o l
  pub log : g' ≡ log_after o g

-- due is the due time of the record at the cursor where the step moved to
abbrev pub stands_at : List ℕ → Out → ℕ → Type 0
stands_at t (moved m w) due = scan_of t m.cpu.cursor ≡ Ok due
stands_at t (stopped k p) due = Unit {0}

-- the same with the due time that the answer carries
pub record StepMade (t : List ℕ) (o : Out) (l g : List ℕ) (r : Stepping) (l' g' : List ℕ) : Type 0 where
  pub due : ℕ
  pub stepped : Stepped due o l g r l' g'
  pub stands : stands_at t o due
