-- Document 01, "One step" and "Calls": every step of the plain machine that moves on takes a cycle at least, so a run makes no more steps than its clock
-- goes on. Of any ROM, any trace and any machine.
-- Assumes nothing.
use Prim.Native.Nat.{ℕ, zero, suc, ◌+◌, ◌-◌, ◌*◌, ◌≤◌, ◌<◌}
use native.Mathlib.Omega.{arith}
use mathlib.Core.Path.{◌≡◌, ◌∙◌, refl, subst, subst⁻¹}
use mathlib.Core.List.{List}
use lib.Dec.{ltb, leb}
use lib.ListN.{length, drop}
use Rattle.std.specs.Prelude.{Option, Some, None}
use Rattle.numbers.specs.Numbers.{clock_stop, full_stop}
use Rattle.record.specs.declared.Record.{Record}
use Rattle.record.specs.Record.{reading_of}
use Rattle.trace.specs.Trace.{due_at}
use Rattle.chip.specs.declared.Machine.{Machine}
use Rattle.chip.specs.Ports.{driven_of}
use Rattle.chip.proofs.Laws.{either}
use Rattle.timers.specs.Rates.{rate_of}
use Rattle.fetch.specs.declared.Code.{Code}
use Rattle.fetch.specs.declared.Origin.TheVariants.{Rom}
use Rattle.fetch.specs.Fetch.{code_at}
use Rattle.events.specs.Records.{record_applied, applied_from, records_of}
use Rattle.arrivals.proofs.Arriving.{applied_clock}
use Rattle.outcomes.specs.declared.Outcome.{Outcome}
use Rattle.outcomes.specs.declared.Outcome.TheVariants.{Stops, Does}
use Rattle.rules.specs.Rules.{action_of}
use Rattle.portlog.specs.Log.{written, logged}
use Rattle.elapse.specs.Elapsed.{elapsed_of}
use Rattle.elapse.proofs.Elapsing.{passed_clock}
use Rattle.step.specs.Step.{Out, moved, stopped, last_clock, ruled_of, logged_of, settled_of, step_of, untold_of}
use Rattle.step.proofs.Telling.{told_has}
use Rattle.steps.specs.Steps.{Run, steps_from, step_by}
use Rattle.steps.proofs.Steps.{steps_moved, steps_stopped}
use Rattle.pace.proofs.Cycles.{Counts, code_counts, Takes, action_takes}

-- the records that are due leave the clock
module _ (v : Code) (n : ℕ) (t : List ℕ) where
  reading_keeps : (most : ℕ) (m : Machine) (x : Option (Record × ℕ)) → ((k : Machine) → (applied_from most v n t k).cpu.clock ≡ k.cpu.clock) →
      (elim x as (λ z. Machine) [ Some (r, k) ↦ applied_from most v n t (record_applied v n m r k) | None ↦ m ]).cpu.clock ≡ m.cpu.clock
  reading_keeps most m (Some (r, k)) further = further (record_applied v n m r k) ∙ applied_clock v n m r k
  reading_keeps most m None further = refl

  applied_keep : (most : ℕ) (m : Machine) → (applied_from most v n t m).cpu.clock ≡ m.cpu.clock
  unfolding applied_from
  applied_keep zero m = refl
  applied_keep (suc most) m =
      either (λ (k : Machine). k.cpu.clock ≡ m.cpu.clock) (leb (due_at t m.cpu.cursor) m.cpu.clock) {y = m}
      (reading_keeps most m (reading_of (drop m.cpu.cursor t)) (applied_keep most)) refl

  records_keep : (m : Machine) → (records_of v n t m).cpu.clock ≡ m.cpu.clock
  unfolding records_of
  records_keep m = applied_keep (length t - m.cpu.cursor) m

-- a step that moves on leaves the clock past x; one that stops leaves no machine
abbrev Past : ℕ → Out → Type 0
Past x (moved m w) = x < m.cpu.clock
Past x (stopped k p) = Unit {0}

logged_past : (x : ℕ) (was : ℕ → ℕ) (m : Machine) (room : ℕ) → x < m.cpu.clock → Past x (logged_of was m room)
unfolding logged_of
logged_past x was m room h =
    let w = logged m.cpu.clock was (driven_of m) in
    either (Past x) (ltb room (length w)) {x = stopped full_stop 0} {y = moved m w} tt h

settled_past : (x : ℕ) (v : Code) (n : ℕ) (was : ℕ → ℕ) (r : Machine) (s : Outcome) (room : ℕ) → Takes x s → Past x (settled_of v n was r s room)
unfolding settled_of elapsed_of
settled_past x v n was r (Stops k p) room h = tt
settled_past x v n was r (Does e d t) room h =
    let z = elapsed_of v n r e t (ruled_of r e d t) in
    let c = passed_clock v n r.cpu.mode e (t * rate_of r) (ruled_of r e d t) in
    either (Past x) (ltb (last_clock - d.clock) t) {x = stopped clock_stop 0} {y = logged_of was z room} tt
    (logged_past x was z room (omega arith))

step_past : (src : ℕ → Code) (n : ℕ) (t : List ℕ) (m : Machine) (room : ℕ) → ((p : ℕ) → Counts (src p).info) →
    Past m.cpu.clock (step_of src n t m room)
unfolding step_of
step_past src n t m room counts =
    let r = records_of (src 0) n t m in
    told_has src (Past m.cpu.clock) (λ k j p h. tt) (untold_of src n t m room)
    (settled_past m.cpu.clock (src 0) n (driven_of m) r (action_of src n r) room
    (subst (λ (x : ℕ). Takes x (action_of src n r)) (records_keep (src 0) n t m) (action_takes src n r counts)))

pub step_takes : (rom t : List ℕ) (m : Machine) (room : ℕ) (m' : Machine) (w : List ℕ) → step_by Rom rom t m room ≡ moved m' w →
    m.cpu.clock < m'.cpu.clock
step_takes rom t m room m' w e =
    subst (Past m.cpu.clock) e (step_past (code_at Rom rom) (length rom) t m room (code_counts rom))

-- a run that stood at clock x after k steps makes no more steps from there than its clock goes on
abbrev Paced : ℕ → ℕ → Run → Type 0
Paced x k r = r.steps + x ≤ k + r.state.cpu.clock

module _ (rom t : List ℕ) where
  steps_by : (n : ℕ) (m : Machine) (l : List ℕ) (e k : ℕ) (o : Out) → step_by Rom rom t m (length l - e) ≡ o →
      ((m : Machine) (l : List ℕ) (e k : ℕ) → Paced m.cpu.clock k (steps_from (step_by Rom rom t) n m l e k)) →
      Paced m.cpu.clock k (steps_from (step_by Rom rom t) (suc n) m l e k)
  steps_by n m l e k (moved m' w) q further =
      subst⁻¹ (Paced m.cpu.clock k) (steps_moved (step_by Rom rom t) n m m' l w e k q)
      (omega (arith, step_takes rom t m (length l - e) m' w q, further m' (written l e w) (e + length w) (suc k)))
  steps_by n m l e k (stopped c p) q further =
      subst⁻¹ (Paced m.cpu.clock k) (steps_stopped (step_by Rom rom t) n m l e k c p q) (omega arith)

pub steps_take : (rom t : List ℕ) (n : ℕ) (m : Machine) (l : List ℕ) (e k : ℕ) →
    let r = steps_from (step_by Rom rom t) n m l e k in r.steps + m.cpu.clock ≤ k + r.state.cpu.clock
unfolding steps_from
steps_take rom t zero m l e k = omega arith
steps_take rom t (suc n) m l e k = steps_by rom t n m l e k (step_by Rom rom t m (length l - e)) refl (λ m l e k. steps_take rom t n m l e k)
