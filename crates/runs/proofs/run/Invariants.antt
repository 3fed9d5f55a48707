use Prim.Native.Nat.{◌≤◌, ◌-◌}
use mathlib.Core.Path.{◌≡◌}
use lib.ListN.{length}
use Rattle.std.specs.Prelude.{Ok}
use Rattle.chip.specs.State.{at, nibbles}
use Rattle.trace.specs.Trace.{scan_of}
use Rattle.steps.specs.Steps.{steps_from, steps_over}
use Rattle.steps.specs.Untold.{untold_by}
use Rattle.runs.proofs.run.Given as goal

abbrev pub invariant-loop-steps : goal.invariant-loop-steps
invariant-loop-steps l =
    (l.end ≤ length l.log) ×
    (length l.log ≡ length l.initial.log) ×
    (l.steps ≤ l.budget) ×
    (length l.mem ≡ nibbles) ×
    (length l.saved ≡ nibbles) ×
    (length l.undo ≡ 4) ×
    (scan_of l.trace l.c.cursor ≡ Ok l.due) ×
    (steps_from (untold_by l.origin l.code l.trace) (l.budget - l.steps) (at l.mem l.c) l.log l.end l.steps ≡ steps_over (untold_by l.origin l.code l.trace) l.budget (at l.initial.mem l.initial.c) l.initial.log l.start)

abbrev pub decreases-loop-steps : goal.decreases-loop-steps
decreases-loop-steps l = l.budget - l.steps
