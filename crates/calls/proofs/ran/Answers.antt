-- `calls::ran` meets its contract: the steps on the state's nibbles, and the scalars stored behind them.
-- Assumes nothing.
use Rattle.std.proofs.Common.{◌≡◌, List, ℕ, take, subst, rules}
use Rattle.chip.specs.State.{nibbles}
use Rattle.image.specs.Image.{machine_of}
use Rattle.steps.specs.Steps.{Run, steps_over, step_by}
use Rattle.runs.specs.Answer.{due_after}
use Rattle.calls.specs.declared.Answer.{Answer}
use Rattle.calls.specs.Calls.{Called, ran_in, Call}
use Rattle.calls.proofs.Calling.{ran_in_lem, ran_due}
use Rattle.calls.proofs.ran.Goals as goal

-- what holds of the array holds of the state's bytes
call_of : (w : List ℕ → Called) {i s s' g : List ℕ} {r : Answer} → i ≡ s → Call (w i) r s' g → Call (w s) r s' g
call_of w {s' = s'} {g = g} {r = r} e h = subst (λ (x : List ℕ). Call (w x) r s' g) e h

due_of : (t : List ℕ) (w : List ℕ → Run) {i s : List ℕ} {d : ℕ} → i ≡ s → due_after t (w i) d → due_after t (w s) d
due_of t w {d = d} e h = subst (λ (x : List ℕ). due_after t (w x) d) e h

pub returns-clause-call : goal.returns-clause-call
returns-clause-call c =
    let a = c.args in
    let r = c.told-x in
    let u = c.run-r in
    let i = c.unwrap-image.result.now in
    let same : i ≡ a.state.now = search rules in
    let first : c.unwrap-mem.result.now ≡ take nibbles i = search rules in
    call_of (λ x. ran_in a.origin a.code.now x a.trace.now a.log.now a.start a.budget) same
    (ran_in_lem a.origin a.code.now i a.trace.now a.log.now u.new.mem _ _ a.start a.budget c.load-c.result r.result c.load-c.ensures u.result r.ensures (rw first at u.ensures.finished)
    u.ensures.long c.store.ensures)

pub returns-clause-due_after : goal.returns-clause-due_after
returns-clause-due_after c =
    let a = c.args in
    let r = c.told-x in
    let u = c.run-r in
    let i = c.unwrap-image.result.now in
    let same : i ≡ a.state.now = search rules in
    let first : c.unwrap-mem.result.now ≡ take nibbles i = search rules in
    due_of a.trace.now (λ x. steps_over (step_by a.origin a.code.now a.trace.now) a.budget (machine_of x) a.log.now a.start) same
    (ran_due a.origin a.code.now i a.trace.now a.log.now u.new.mem _ i a.start a.budget c.load-c.result r.result c.load-c.ensures u.result r.ensures (rw first at u.ensures.finished))
