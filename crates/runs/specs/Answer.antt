-- Document 01, "Calls": what a run answers of the steps of its budget: the scalars, the log's end, how many steps are made, and the number and
-- the address of a stop, both 0 where all are made; and, for a run that goes on from there, the due time of the record at the cursor.
-- Assumes nothing.
use Rattle.std.specs.Prelude.{ℕ, ◌≡◌, List, Ok}
use Rattle.chip.specs.declared.Cpu.{Cpu}
use Rattle.fetch.specs.declared.Code.{Code}
use Rattle.step.specs.Told.{number_at}
use Rattle.step.specs.declared.Stepping.{Stepping}
use Rattle.step.specs.declared.Stepping.TheVariants.{Moved, Stopped}
use Rattle.steps.specs.Steps.{Run, done, ending_number, ending_place}
use Rattle.trace.specs.Trace.{scan_of}
use Rattle.runs.specs.declared.Ran.{Ran}

-- what a run answers that is done, and one whose last step answered a stop
abbrev pub done_as : Cpu → ℕ → ℕ → ℕ → Ran
done_as c due e k = record { cpu = c; due = due; end = e; steps = k; number = 0; address = 0 }

abbrev pub stopped_as : Cpu → ℕ → ℕ → ℕ → Stepping → Ran
stopped_as c due e k (Moved d next n) = done_as c due e k
stopped_as c due e k (Stopped number place) = record { cpu = c; due = due; end = e; steps = k; number = number; address = place }

abbrev pub ran_of : ℕ → Run → Ran
ran_of due p =
    record { cpu = p.state.cpu; due = due; end = p.end; steps = p.steps; number = ending_number p.ending; address = ending_place p.ending }

-- the same with the number of the code's kind in 9's place; src is where codes come from
abbrev pub ran_told : (ℕ → Code) → Ran → Ran
ran_told src r =
    record { cpu = r.cpu; due = r.due; end = r.end; steps = r.steps; number = number_at src r.number r.address; address = r.address }

-- where all steps are made, due is the due time of the record at the cursor; t is the trace
abbrev pub due_after : List ℕ → Run → ℕ → Type 0
due_after t p due = p.ending ≡ done → scan_of t p.state.cpu.cursor ≡ Ok due

-- the equation of a run: its answer, and the nibbles and the log that it leaves
pub record Finished (t : List ℕ) (p : Run) (r : Ran) (l g : List ℕ) : Type 0 where
  pub answer : r ≡ ran_of r.due p
  pub mem : l ≡ p.state.mem
  pub log : g ≡ p.log
  pub stands : due_after t p r.due
