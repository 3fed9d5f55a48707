use Prim.Native.Nat.{◌-◌}
use mathlib.Core.Path.{◌≡◌}
use lib.ListN.{length}
use Rattle.std.specs.Prelude.{Ok}
use Rattle.chip.specs.State.{at}
use Rattle.trace.specs.Trace.{scan_of}
use Rattle.events.specs.Records.{records_of}
use Rattle.arrivals.proofs.apply_due.Given as goal

abbrev pub invariant-loop-due : goal.invariant-loop-due
invariant-loop-due l =
    (length l.mem ≡ 640) × ((scan_of l.trace l.c.cursor ≡ Ok l.due) × (records_of l.v l.n l.trace (at l.mem l.c) ≡ records_of l.v l.n l.trace (at l.initial.mem l.initial.c)))

abbrev pub decreases-loop-due : goal.decreases-loop-due
decreases-loop-due l = length l.trace - l.c.cursor
