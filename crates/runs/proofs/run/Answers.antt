-- `runs::run` meets its contract. The invariant: what is left of the budget, from what the run has now, ends where the whole budget ends from
-- the start; the record at the cursor is due at `due`. Where records came, what a stop gives back stands in `undo`.
-- Assumes nothing.
use Prim.Native.Nat.{ℕ, ◌<◌, ◌-◌, ◌+◌, ◌%◌}
use native.Mathlib.Omega.{arith}
use native.Mathlib.Nat.{sub-zero}
use mathlib.Core.Path.{◌≡◌, ◌∙◌, refl, sym, ap, subst}
use borrow.Rule.Slice.PartMut.{mid_of}
use lib.ListN.{length, length-replicate}
use Rattle.chip.specs.declared.Cpu.{Cpu}
use Rattle.chip.specs.declared.Machine.{Machine}
use Rattle.chip.specs.State.{at}
use Rattle.fetch.specs.Fetch.{code_at, size_of}
use Rattle.trace.specs.Trace.{scan_of}
use Rattle.rules.proofs.Phases.{rules_told}
use Rattle.step.specs.Brief.{Brief}
use Rattle.step.specs.Step.{StepMade}
use Rattle.step.proofs.Briefly.{resolved_brief}
use Rattle.step.proofs.Settling.{step_made}
use Rattle.steps.specs.Steps.{steps_from, steps_over}
use Rattle.steps.specs.Untold.{untold_by}
use Rattle.steps.specs.Stretch.{passed_of}
use Rattle.steps.proofs.Idle.{Passing, passing, stretched}
use Rattle.runs.proofs.Moves.{Readied, some_came, none_came, given_back, still_there, move_on, halt, told_as, finished}
use Rattle.runs.proofs.run.Goals as goal
use Rattle.runs.proofs.run.Goals.{then-kept, else-kept, then-kept-2, else-kept-2}

pub loop-steps-init : goal.loop-steps-init
unfolding steps_over
loop-steps-init c =
    let a = c.args in
    let p = c.requires in (
      omega arith,
      refl,
      omega arith,
      c.told-mem,
      length-replicate {A = ℕ} 640 0,
      length-replicate {A = Cpu} 4 a.from,
      p.cursor_value,
      ap (λ (k : ℕ). steps_from (untold_by a.origin a.code.now a.trace.now) k (at a.mem.now a.from) a.log.now a.start 0) (sub-zero a.budget),
    )

pub passed-c-requires-clause-n_bound : goal.passed-c-requires-clause-n_bound
passed-c-requires-clause-n_bound c = (passing c.args.origin _ _ _ _ c.stretch-idle.ensures c.if-idle-gt0.true).in_time

pub passed-c-requires-clause-c_value : goal.passed-c-requires-clause-c_value
passed-c-requires-clause-c_value c = (passing c.args.origin _ _ _ _ c.stretch-idle.ensures c.if-idle-gt0.true).quiet

pub overflow_add-steps : goal.overflow_add-steps
overflow_add-steps c =
    let q = passing c.args.origin _ _ _ _ c.stretch-idle.ensures c.if-idle-gt0.true in
    omega (arith, q.within, c.loop-steps-test.true)

pub loop-steps-preserved-then-idle-gt0 : goal.loop-steps-preserved-then-idle-gt0
unfolding passed_of
loop-steps-preserved-then-idle-gt0 c =
    let a = c.args in
    let l = c.loop-steps in
    let q = passing a.origin _ _ _ _ c.stretch-idle.ensures c.if-idle-gt0.true in
    let w = c.passed-c.ensures in
    let k = c.stretch-idle.result in (
      l.invariant.0,
      l.invariant.1,
      omega (arith, q.within, c.loop-steps-test.true),
      c.passed-c.array_long,
      l.invariant.4,
      l.invariant.5,
      ap (λ (z : Machine). scan_of a.trace.now z.cpu.cursor) w ∙ l.invariant.6,
      ap (λ (z : Machine). steps_from (untold_by a.origin a.code.now a.trace.now) (a.budget - (l.steps + k)) z l.log l.end (l.steps + k)) w ∙
          stretched (code_at a.origin a.code.now) (size_of a.origin (length a.code.now)) a.trace.now a.budget l.steps k l.end l.due (at l.mem l.c) l.log _ q c.if-idle-gt0.true l.invariant.6 l.invariant.3 l.invariant.7,
    )

pub settled-s-requires-clause-brief : goal.settled-s-requires-clause-brief
settled-s-requires-clause-brief c = subst Brief (sym c.resolved-t.ensures) (resolved_brief _ _ _ _ c.fetched-x.ensures.1)

pub returns-in_default-clause-finished : goal.returns-in_default-clause-finished
returns-in_default-clause-finished c =
    let a = c.args in
    let l = c.loop-steps in
    let j = c.if-kept in
    let s = c.settled-s in
    let src = code_at a.origin a.code.now in
    let n = size_of a.origin (length a.code.now) in
    let f = untold_by a.origin a.code.now a.trace.now in
    let inside : l.steps % 4 < 4 = omega arith in
    let r : Readied src n a.trace.now (at l.mem l.c) (at j.mem j.c) j.due c.arrives-kept.result j.saved j.undo (l.steps % 4) 4 =
    elim j.branch [
      | then-kept w ↦ some_came src n a.trace.now l.mem l.c l.saved l.undo (l.steps % 4) 4 l.invariant.5 inside w.arrived-r.result w.arrived-r.ensures w.arrived-r.array_long w.arrived-r.array_long2 w.if-kept.true w.mem-is w.saved-is w.undo-is w.c-is w.due-is
      | else-kept w ↦ none_came src n a.trace.now l.mem l.c l.saved l.undo (l.steps % 4) 4 l.invariant.5 inside l.due l.invariant.6 l.invariant.3 l.invariant.4 c.arrives-kept.ensures w.if-kept.false w.mem-is w.saved-is w.undo-is w.c-is w.due-is
    ]
    in
    let told = rules_told src (at j.mem j.c) n c.fetched-x.result _ _ c.resolved-t.result c.fetched-x.ensures.0 c.decode-i.ensures c.executed-e.ensures c.resolved-t.ensures in
    let part = mid_of l.end (length l.log - l.end) l.log in
    let made : StepMade a.trace.now (f (at l.mem l.c) (length part)) l.mem part s.result s.new.mem s.new.log =
    step_made src n a.trace.now (at l.mem l.c) (length part) (at j.mem j.c) r.machine _ c.resolved-t.result r.before told r.stands (s.ensures.stepped _ refl)
    in
    let before-records : c.if-kept-2.c ≡ l.c = elim c.if-kept-2.branch [ then-kept-2 w ↦ w.c-is ∙ given_back r w.if-kept-2.true _ | else-kept-2 w ↦ w.c-is ∙ still_there r w.if-kept-2.false ] in
    told_as c.stopped.ensures
    (halt f a.trace.now a.budget l.steps l.end l.mem s.new.mem l.c l.log s.new.log s.result _ l.invariant.0 c.loop-steps-test.true made s.auto.log l.invariant.7 _ _ before-records _ _ c.in_default.is)

pub loop-steps-preserved : goal.loop-steps-preserved
loop-steps-preserved c =
    let a = c.args in
    let l = c.loop-steps in
    let j = c.if-kept in
    let s = c.settled-s in
    let src = code_at a.origin a.code.now in
    let n = size_of a.origin (length a.code.now) in
    let f = untold_by a.origin a.code.now a.trace.now in
    let inside : l.steps % 4 < 4 = omega arith in
    let r : Readied src n a.trace.now (at l.mem l.c) (at j.mem j.c) j.due c.arrives-kept.result j.saved j.undo (l.steps % 4) 4 =
    elim j.branch [
      | then-kept w ↦ some_came src n a.trace.now l.mem l.c l.saved l.undo (l.steps % 4) 4 l.invariant.5 inside w.arrived-r.result w.arrived-r.ensures w.arrived-r.array_long w.arrived-r.array_long2 w.if-kept.true w.mem-is w.saved-is w.undo-is w.c-is w.due-is
      | else-kept w ↦ none_came src n a.trace.now l.mem l.c l.saved l.undo (l.steps % 4) 4 l.invariant.5 inside l.due l.invariant.6 l.invariant.3 l.invariant.4 c.arrives-kept.ensures w.if-kept.false w.mem-is w.saved-is w.undo-is w.c-is w.due-is
    ]
    in
    let told = rules_told src (at j.mem j.c) n c.fetched-x.result _ _ c.resolved-t.result c.fetched-x.ensures.0 c.decode-i.ensures c.executed-e.ensures c.resolved-t.ensures in
    let part = mid_of l.end (length l.log - l.end) l.log in
    let made : StepMade a.trace.now (f (at l.mem l.c) (length part)) l.mem part s.result s.new.mem s.new.log =
    step_made src n a.trace.now (at l.mem l.c) (length part) (at j.mem j.c) r.machine _ c.resolved-t.result r.before told r.stands (s.ensures.stepped _ refl)
    in
    let m = c.in-Moved in
    let g = move_on f a.trace.now a.budget l.steps l.end l.mem s.new.mem l.c l.log s.new.log s.result _ l.invariant.0 c.loop-steps-test.true made s.auto.log l.invariant.7 m.next m.d m.n m.is in
    (g.inside, g.long ∙ l.invariant.1, omega (arith, c.loop-steps-test.true), s.array_long, s.array_long2, r.undo_long, g.stands, g.so)

pub overflow_add-end : goal.overflow_add-end
overflow_add-end c =
    let g = loop-steps-preserved c in
    omega (arith, g.0, g.1, c.type_inv.log)

pub returns-clause-finished : goal.returns-clause-finished
returns-clause-finished c =
    let a = c.args in
    told_as c.done.ensures
    (finished (untold_by a.origin a.code.now a.trace.now) a.trace.now a.budget _ _ _ _ _ _ _ c.loop-steps-test.false c.loop-steps.invariant.6 c.loop-steps.invariant.7)
