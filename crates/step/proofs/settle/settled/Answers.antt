use mathlib.Core.Path.{◌∙◌, refl, sym, ap}
use mathlib.Core.Bool.{cond}
use lib.ListN.{length}
use Rattle.chip.specs.Ports.{latched_of}
use Rattle.chip.specs.State.{at}
use Rattle.fetch.specs.Fetch.{code_at, size_of}
use Rattle.outcomes.specs.declared.Outcome.{Outcome}
use Rattle.step.specs.Step.{settled_of}
use Rattle.step.proofs.Settling.{told, stops}
use Rattle.step.proofs.settle.settled.Goals as goal

pub returns-in-Stops-clause-stepped : goal.returns-in-Stops-clause-stepped
returns-in-Stops-clause-stepped c k i =
    let a = c.args in
    let v = code_at a.origin a.code.now 0 in
    let n = size_of a.origin (length a.code.now) in
    let was = latched_of (cond a.kept a.saved.now a.mem.now) in
    let m = at a.mem.now k in
    told (stops v n was m _ _ (length a.log.now) ∙ ap (λ (x : Outcome). settled_of v n was m x (length a.log.now)) (sym c.in-Stops.is))
    (record { answer = refl; mem = c.put_back.ensures; log = refl })
