-- Steps with 9 at every undefined code, as document 01 has them, and what document 02's No. 7 makes of them: a stop's number alone is told, by the kind of the code
-- at its address. `told_steps` (proofs/Telling.antt) says that the steps of `step_by` are these, told so.
-- Assumes nothing.
use Rattle.std.specs.Prelude.{ℕ, List, length}
use Rattle.chip.specs.declared.Machine.{Machine}
use Rattle.fetch.specs.declared.Code.{Code}
use Rattle.fetch.specs.declared.Origin.{Origin}
use Rattle.fetch.specs.Fetch.{code_at, size_of}
use Rattle.step.specs.Told.{number_at}
use Rattle.step.specs.Step.{Out, untold_of}
use Rattle.steps.specs.Steps.{Ending, done, stop, Run}

abbrev pub untold_by : Origin → List ℕ → List ℕ → Machine → ℕ → Out
untold_by origin code t m room = untold_of (code_at origin code) (size_of origin (length code)) t m room

abbrev pub told_ending : (ℕ → Code) → Ending → Ending
told_ending src done = done
told_ending src (stop k p) = stop (number_at src k p) p

abbrev pub told_run : (ℕ → Code) → Run → Run
told_run src r = record { state = r.state; log = r.log; end = r.end; steps = r.steps; ending = told_ending src r.ending }
