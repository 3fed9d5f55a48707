-- The steps of a machine with a trace are the steps of the machine that is given the trace's meaning, but for the cursor.
-- Assumes nothing.
use Prim.Native.Nat.{ℕ, zero, suc, ◌+◌, ◌-◌, ◌≤◌}
use native.Mathlib.Omega.{arith}
use mathlib.Core.Path.{◌≡◌, ◌∙◌, refl, sym, ap, subst⁻¹}
use mathlib.Core.List.{List}
use mathlib.Core.Logic.{◌⊎◌}
use lib.ListN.{length}
use Rattle.std.specs.Prelude.{Ok}
use Rattle.chip.specs.declared.Machine.{Machine}
use Rattle.chip.specs.Ports.{driven_of}
use Rattle.chip.specs.State.{rom0502, rom0504}
use Rattle.fetch.specs.declared.Code.{Code}
use Rattle.trace.specs.Trace.{scan_of, due_next}
use Rattle.trace.proofs.Entries.{remaining}
use Rattle.events.specs.Records.{records_of}
use Rattle.outcomes.specs.declared.Outcome.{Outcome}
use Rattle.rules.specs.Rules.{action_of}
use Rattle.portlog.specs.Log.{written}
use Rattle.portlog.proofs.Laws.{length_written_at}
use Rattle.step.specs.Step.{Out, moved, stopped, settled_of, step_of, untold_of, told_of}
use Rattle.steps.specs.Steps.{Run, done, stop, steps_from}
use Rattle.steps.proofs.Steps.{steps_moved, steps_stopped}
use Rattle.tidy.specs.Meaning.{Event, events_in}
use Rattle.invariant.specs.Sound.{CodeBytes, Sound}
use Rattle.invariant.proofs.Stepping.{step_sound}
use Rattle.alike.proofs.Unseen.{but, out_but, action_but, settled_but, told_but}
use Rattle.alike.proofs.Meant.{events_applied, events_left, Faces, Came, came}

-- a run that ends with another cursor
abbrev pub run_but : Run → Run
run_but p = record { state = but p.state 0; log = p.log; end = p.end; steps = p.steps; ending = p.ending }

-- a step, and b more steps after k, of the machine that is given events; some of them are left
pub record Replay : Type 0 where
  pub run : Run
  pub left : List Event

unfoldable pub meant_step : (ℕ → Code) → ℕ → List Event → Machine → ℕ → Out
meant_step src n xs m room =
    let r = events_applied (src 0) n xs m in
    told_of src (settled_of (src 0) n (driven_of m) r (action_of src n r) room)

unfoldable pub meant_from : (ℕ → Code) → ℕ → ℕ → List Event → Machine → List ℕ → ℕ → ℕ → Replay
meant_from src n zero xs m l e k = record { run = record { state = m; log = l; end = e; steps = k; ending = done }; left = xs }
meant_from src n (suc b) xs m l e k =
    elim (meant_step src n xs m (length l - e)) [
      | moved t w ↦ meant_from src n b (events_left m.cpu.clock xs) t (written l e w) (e + length w) (suc k)
      | stopped c p ↦ record { run = record { state = m; log = l; end = e; steps = k; ending = stop c p }; left = xs }
    ]

module _ (src : ℕ → Code) (n b : ℕ) (xs : List Event) (m : Machine) (l : List ℕ) (e k : ℕ) where
  abbrev meant_on : Out → Replay
  meant_on (moved t w) = meant_from src n b (events_left m.cpu.clock xs) t (written l e w) (e + length w) (suc k)
  meant_on (stopped c p) = record { run = record { state = m; log = l; end = e; steps = k; ending = stop c p }; left = xs }

  meant_on_lem : (o : Out) → meant_step src n xs m (length l - e) ≡ o → meant_from src n (suc b) xs m l e k ≡ meant_on o
  unfolding meant_from
  meant_on_lem o q = ap meant_on q

-- a step of the machine m, of which its records make r
module _ (src : ℕ → Code) (n : ℕ) (t : List ℕ) (m : Machine) where
  abbrev arrived : Machine
  arrived = records_of (src 0) n t m

  step_meant : (xs : List Event) (room : ℕ) → Came (src 0) n t arrived m xs → meant_step src n xs (but m 0) room ≡ out_but 0 (step_of src n t m room)
  unfolding meant_step step_of
  step_meant xs room c =
      ap (told_of src)
      (ap (λ (r : Machine). settled_of (src 0) n (driven_of m) r (action_of src n r) room) (sym c.machine) ∙
      ap (λ (s : Outcome). settled_of (src 0) n (driven_of m) (but arrived 0) s room) (action_but src n arrived 0) ∙
      settled_but (src 0) n 0 (driven_of m) arrived (action_of src n arrived) room) ∙
      told_but src 0 (untold_of src n t m room)

  -- the step keeps the cursor where the records left it
  abbrev cursor_in : Out → ℕ
  cursor_in (moved d w) = d.cpu.cursor
  cursor_in (stopped c p) = 0

  kept_cursor : (room : ℕ) (d : Machine) (w : List ℕ) → step_of src n t m room ≡ moved d w → d.cpu.cursor ≡ arrived.cpu.cursor
  unfolding step_of
  kept_cursor room d w e =
      let c = arrived.cpu.cursor in
      let same : step_of src n t m room ≡ out_but c (step_of src n t m room) =
      ap (told_of src)
      (ap (λ (s : Outcome). settled_of (src 0) n (driven_of m) arrived s room) (action_but src n arrived c) ∙
      settled_but (src 0) n c (driven_of m) arrived (action_of src n arrived) room) ∙
      told_but src c (untold_of src n t m room) in
      ap cursor_in (sym e ∙ same ∙ ap (out_but c) e)

  moved_faces : (xs : List Event) (d : Machine) → d.cpu.cursor ≡ arrived.cpu.cursor → Faces t xs arrived → Faces t xs d
  moved_faces xs d e f =
      record {
        passed = f.passed;
        stands = subst⁻¹ (λ (j : ℕ). scan_of t j ≡ Ok (due_next t j f.passed)) e f.stands;
        left = ap (λ (j : ℕ). events_in (remaining t j f.passed)) e ∙ f.left;
      }

-- the steps of a run
module _ (src : ℕ → Code) (n : ℕ) (t : List ℕ) (rom : (n ≡ rom0502) ⊎ (n ≡ rom0504)) (bytes : CodeBytes src) where
  -- the run p with the trace t, and what the machine comes to that is given the trace's events
  pub record Meant (p : Run) (q : Replay) : Type 0 where
    pub same : run_but p ≡ q.run
    pub sound : Sound n p.state
    pub faces : Faces t q.left p.state
    pub within : p.end ≤ length p.log

  meant_by : (b : ℕ) (xs : List Event) (m : Machine) (l : List ℕ) (e k : ℕ) (o : Out) → step_of src n t m (length l - e) ≡ o → Sound n m → Faces t xs m → e ≤ length l →
      ((d : Machine) (ys : List Event) (l : List ℕ) (e k : ℕ) → Sound n d → Faces t ys d → e ≤ length l → Meant (steps_from (step_of src n t) b d l e k) (meant_from src n b ys (but d 0) l e k)) →
      Meant (steps_from (step_of src n t) (suc b) m l e k) (meant_from src n (suc b) xs (but m 0) l e k)
  meant_by b xs m l e k (moved d w) q h f r further =
      let room = length l - e in
      let c = came (src 0) n t rom (bytes 0) m xs h f in
      let s = step_sound src n t m room d w (due_next t m.cpu.cursor f.passed) rom bytes h f.stands q in
      let small : length w ≤ length l - e = s.1 in
      let long : length (written l e w) ≡ length l = length_written_at l e w (omega arith) in
      let g = further d (events_left m.cpu.clock xs) (written l e w) (e + length w) (suc k) s.0
      (moved_faces src n t m (events_left m.cpu.clock xs) d (kept_cursor src n t m room d w q) c.faces) (omega arith) in
      let on = steps_moved (step_of src n t) b m d l w e k q in
      subst⁻¹ (λ (p : Run). Meant p (meant_from src n (suc b) xs (but m 0) l e k)) on
      (subst⁻¹ (Meant (steps_from (step_of src n t) b d (written l e w) (e + length w) (suc k)))
      (meant_on_lem src n b xs (but m 0) l e k (moved (but d 0) w) (step_meant src n t m xs room c ∙ ap (out_but 0) q)) g)
  meant_by b xs m l e k (stopped i p) q h f r further =
      let room = length l - e in
      let c = came (src 0) n t rom (bytes 0) m xs h f in
      let on = steps_stopped (step_of src n t) b m l e k i p q in
      subst⁻¹ (λ (p : Run). Meant p (meant_from src n (suc b) xs (but m 0) l e k)) on
      (subst⁻¹ (Meant (record { state = m; log = l; end = e; steps = k; ending = stop i p }))
      (meant_on_lem src n b xs (but m 0) l e k (stopped i p) (step_meant src n t m xs room c ∙ ap (out_but 0) q))
      (record { same = refl; sound = h; faces = f; within = r }))

  pub run_meant : (b : ℕ) (m : Machine) (xs : List Event) (l : List ℕ) (e k : ℕ) → Sound n m → Faces t xs m → e ≤ length l →
      Meant (steps_from (step_of src n t) b m l e k) (meant_from src n b xs (but m 0) l e k)
  unfolding steps_from meant_from
  run_meant zero m xs l e k h f r = record { same = refl; sound = h; faces = f; within = r }
  run_meant (suc b) m xs l e k h f r = meant_by b xs m l e k (step_of src n t m (length l - e)) refl h f r (run_meant b)
