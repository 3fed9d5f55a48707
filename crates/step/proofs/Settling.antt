-- The cases of what follows the rules, and that a step keeps the cursor where its records left it.
-- Assumes nothing.
use Prim.Native.Nat.{ℕ, ◌-◌, ◌≤◌, ◌<◌}
use native.Mathlib.Omega.{arith}
use mathlib.Core.Path.{◌≡◌, refl, sym, ap, subst, ◌∙◌}
use mathlib.Core.Bool.{Bool, true, false, cond}
use mathlib.Core.List.{List, []}
use borrow.Author.Tests.{lt-ltb, le-ltb, leb-false}
use lib.Dec.{ltb, leb}
use lib.ListN.{length}
use Rattle.std.specs.Prelude.{Ok}
use Rattle.chip.specs.declared.Cpu.{Cpu}
use Rattle.chip.specs.declared.Machine.{Machine}
use Rattle.numbers.specs.Numbers.{clock_stop, full_stop}
use Rattle.chip.specs.Ports.{latched_of, driven_of}
use Rattle.chip.specs.State.{at}
use Rattle.chip.proofs.Laws.{either}
use Rattle.fetch.specs.declared.Code.{Code}
use Rattle.effects.specs.declared.Effect.{Effect}
use Rattle.effects.specs.Effects.{applied_to}
use Rattle.events.specs.Records.{records_of}
use Rattle.portlog.specs.Log.{logged, writes_port, most_logged, drives_of}
use Rattle.portlog.proofs.Laws.{unwritten_logged}
use Rattle.trace.specs.Trace.{scan_of}
use Rattle.outcomes.specs.declared.Outcome.{Outcome}
use Rattle.outcomes.specs.declared.Outcome.TheVariants.{Stops, Does}
use Rattle.rules.specs.Rules.{action_of}
use Rattle.rules.proofs.Cursor.{Keeps, action_keep}
use Rattle.step.specs.declared.Stepping.{Stepping}
use Rattle.step.specs.declared.Stepping.TheVariants.{Moved}
use Rattle.timers.specs.declared.Timers.{Timers}
use Rattle.timers.specs.Closed.{state_of}
use Rattle.timers.specs.Registers.{with_timers}
use Rattle.timers.proofs.Held.{with_driven}
use Rattle.elapse.specs.Bounds.{last_count, most_clocks}
use Rattle.elapse.specs.Elapsed.{timed_of, passed_by, elapsed_of}
use Rattle.step.specs.Step.{Out, moved, stopped, last_clock, ruled_of, logged_of, settled_of, untold_of, step_of, stands_at, StepMade, Stepped}
use Rattle.step.proofs.Telling.{told_has}
use Rattle.elapse.proofs.Elapsing.{elapsed_cursor, quiet_passes}

-- an equation of a step told of the same step written otherwise
pub told : {due : ℕ} {o p : Out} {l g : List ℕ} {r : Stepping} {l' g' : List ℕ} → o ≡ p → Stepped due o l g r l' g' → Stepped due p l g r l' g'
told {due} {o} {p} {l} {g} {r} {l'} {g'} e s = subst (λ (x : Out). Stepped due x l g r l' g') e s

-- the log
module _ (was : ℕ → ℕ) (m : Machine) (room : ℕ) where
  abbrev records : List ℕ
  records = logged m.cpu.clock was (driven_of m)

  pub no_room : room < length records → stopped full_stop 0 ≡ logged_of was m room
  unfolding logged_of
  no_room h = rw (lt-ltb room (length records) h)

  pub with_room : length records ≤ room → moved m records ≡ logged_of was m room
  unfolding logged_of
  with_room h = rw (le-ltb room (length records) h)

  -- a step that logs nothing
  pub silent : records ≡ [] → moved m [] ≡ logged_of was m room
  silent h = ap (moved m) (sym h) ∙ with_room (rw h (omega arith))

-- an effect that writes no port's location logs nothing, nor do the clocks behind it where they store timers alone
pub unlogged : (l : List ℕ) (e : Effect) (m : Machine) (t : Timers) (room : ℕ) → writes_port e ≡ false → m.mem ≡ applied_to l e →
    moved (with_timers m t) [] ≡ logged_of (latched_of l) (with_timers m t) room
unlogged l e m t room h k =
    let clock = m.cpu.clock in
    let drives : driven_of (with_timers m t) ≡ latched_of (applied_to l e) = λ i p. (with_driven m t p ∙ ap (λ (x : List ℕ). latched_of x p) k) i in
    silent (latched_of l) (with_timers m t) room (ap (logged clock (latched_of l)) drives ∙ unwritten_logged clock l e h)

-- the nibbles before the step, where they may have been kept
kept_before : (kept short : Bool) (saved l s : List ℕ) → s ≡ cond short (cond kept saved l) saved → cond kept s l ≡ cond kept saved l
kept_before true true saved l s h = h
kept_before true false saved l s h = h
kept_before false short saved l s h = refl

-- a step that may change a driven value and comes to the machine m: s has the nibbles before the step where the log may be full, w is what they drove
pub logging_step : (room : ℕ) (kept : Bool) (saved l : List ℕ) (m : Machine) {due w : ℕ} {s k g : List ℕ} {x : Cpu} {r : Stepping} {l' g' : List ℕ} →
    s ≡ cond (ltb room most_logged) (cond kept saved l) saved → w ≡ drives_of (latched_of (cond kept s l)) → at k x ≡ m →
    ((b : List ℕ) → w ≡ drives_of (latched_of b) → (room < most_logged → s ≡ b) → Stepped due (logged_of (latched_of b) (at k x) room) b g r l' g') →
    Stepped due (logged_of (latched_of (cond kept saved l)) m room) (cond kept saved l) g r l' g'
logging_step room kept saved l m {due} {w} {s} {k} {g} {x} {r} {l'} {g'} p was q y =
    let b = cond kept saved l in
    let drove : w ≡ drives_of (latched_of b) = was ∙ ap (λ (z : List ℕ). drives_of (latched_of z)) (kept_before kept (ltb room most_logged) saved l s p) in
    subst (λ (z : Machine). Stepped due (logged_of (latched_of b) z room) b g r l' g') q
    (y b drove (λ h. p ∙ ap (λ (t : Bool). cond t b saved) (lt-ltb room most_logged h)))

-- whether a step may change a driven value
abbrev may_drive : Bool → ℕ → Effect → Bool
may_drive kept basic e = cond kept true (cond (leb last_count basic) true (writes_port e))

-- one that can't: there were no records, the watchdog's count isn't at its last, and it writes no port's location
pub record Silent (kept : Bool) (basic : ℕ) (e : Effect) : Type 0 where
  pub unkept : kept ≡ false
  pub early : basic < last_count
  pub apart : writes_port e ≡ false

silent_by : (kept late : Bool) (basic : ℕ) (e : Effect) → leb last_count basic ≡ late → cond kept true (cond late true (writes_port e)) ≡ false → Silent kept basic e
silent_by true late basic e q h = absurd (let z : ◌≡◌ {A = ℕ} 0 1 = cc in omega arith)
silent_by false true basic e q h = absurd (let z : ◌≡◌ {A = ℕ} 0 1 = cc in omega arith)
silent_by false false basic e q h = record { unkept = refl; early = leb-false last_count basic q; apart = h }

pub silent_step : {drives : Bool} (kept : Bool) (basic : ℕ) (e : Effect) → drives ≡ may_drive kept basic e → drives ≡ false → Silent kept basic e
silent_step kept basic e p h = silent_by kept (leb last_count basic) basic e refl (sym p ∙ h)

pub unlogged_step : (due room : ℕ) (kept : Bool) (saved l g : List ℕ) (v : Code) (n was : ℕ) (e : Effect) (d : Cpu) (c : ℕ) {a k : List ℕ} {x : Cpu} → Silent kept d.timing.basic e → c < most_clocks → a ≡ applied_to l e →
    at k x ≡ passed_by v n was e c (at a d) →
    Stepped due (logged_of (latched_of (cond kept saved l)) (passed_by v n was e c (at (applied_to l e) d)) room) (cond kept saved l) g (Moved x due 0) k g
unlogged_step due room kept saved l g v n was e d c {a} {k} {x} h f q y =
    let m = at (applied_to l e) d in
    let t = state_of c (timed_of was e m) in
    let is : at k x ≡ with_timers m t = y ∙ ap (λ (z : List ℕ). passed_by v n was e c (at z d)) q ∙ quiet_passes v n was e c m h.early f in
    let so : moved (at k x) [] ≡ logged_of (latched_of l) (passed_by v n was e c m) room =
    ap (λ (z : Machine). moved z []) is ∙ unlogged l e m t room h.apart refl ∙ ap (λ (z : Machine). logged_of (latched_of l) z room) (sym (quiet_passes v n was e c m h.early f)) in
    let b : cond kept saved l ≡ l = ap (λ (z : Bool). cond z saved l) h.unkept in
    subst (λ (z : List ℕ). Stepped due (logged_of (latched_of z) (passed_by v n was e c m) room) z g (Moved x due 0) k g) (sym b)
    (told so (record { answer = refl; mem = refl; log = refl }))

-- an outcome that stops
pub stops : (v : Code) (n : ℕ) (was : ℕ → ℕ) (m : Machine) (k p room : ℕ) → stopped k p ≡ settled_of v n was m (Stops k p) room
unfolding settled_of
stops v n was m k p room = refl

-- the clock
module _ (v : Code) (n : ℕ) (was : ℕ → ℕ) (m : Machine) (e : Effect) (d : Cpu) (t room : ℕ) where
  pub too_late : last_clock - d.clock < t → stopped clock_stop 0 ≡ settled_of v n was m (Does e d t) room
  unfolding settled_of
  too_late h = rw (lt-ltb (last_clock - d.clock) t h)

  pub in_time : t ≤ last_clock - d.clock → logged_of was (elapsed_of v n m e t (ruled_of m e d t)) room ≡ settled_of v n was m (Does e d t) room
  unfolding settled_of
  in_time h = rw (le-ltb (last_clock - d.clock) t h)

-- the machine told otherwise
pub on_machine : (room : ℕ) (was : ℕ → ℕ) {due : ℕ} {l g : List ℕ} {x y : Machine} {r : Stepping} {l' g' : List ℕ} → x ≡ y → Stepped due (logged_of was x room) l g r l' g' → Stepped due (logged_of was y room) l g r l' g'
on_machine room was {due} {l} {g} {x} {y} {r} {l'} {g'} e s = subst (λ (z : Machine). Stepped due (logged_of was z room) l g r l' g') e s

-- the record at the cursor is due when it was
module _ (t : List ℕ) (due : ℕ) where
  abbrev Ahead : Out → Type 0
  Ahead o = stands_at t o due

  logged_stands : (was : ℕ → ℕ) (m : Machine) (room : ℕ) → scan_of t m.cpu.cursor ≡ Ok due → stands_at t (logged_of was m room) due
  unfolding logged_of
  logged_stands was m room g = either Ahead (ltb room (length (records was m room))) {x = stopped full_stop 0} {y = moved m (records was m room)} tt g

  settled_by : (v : Code) (n : ℕ) (was : ℕ → ℕ) (m : Machine) (s : Outcome) (room x : ℕ) → Keeps s x → scan_of t x ≡ Ok due → stands_at t (settled_of v n was m s room) due
  unfolding settled_of
  settled_by v n was m (Stops k p) room x h g = tt
  settled_by v n was m (Does e d c) room x h g =
      let z = elapsed_of v n m e c (ruled_of m e d c) in
      either Ahead (ltb (last_clock - d.clock) c) {x = stopped clock_stop 0} {y = logged_of was z room} tt
      (logged_stands was z room (ap (scan_of t) (elapsed_cursor v n m e c (ruled_of m e d c) ∙ h) ∙ g))

  pub settled_stands : (src : ℕ → Code) (n : ℕ) (m : Machine) (was : ℕ → ℕ) (room : ℕ) → scan_of t m.cpu.cursor ≡ Ok due → stands_at t (settled_of (src 0) n was m (action_of src n m) room) due
  settled_stands src n m was room g = settled_by (src 0) n was m (action_of src n m) room m.cpu.cursor (action_keep src n m) g

-- a step whole, from its parts: k the machine after the records, b the nibbles before them, s the outcome of the rules or the hold
module _ (src : ℕ → Code) (n : ℕ) (t : List ℕ) (m : Machine) (room : ℕ) (k : Machine) (e : k ≡ records_of (src 0) n t m) where
  whole : untold_of src n t m room ≡ settled_of (src 0) n (driven_of m) k (action_of src n k) room
  unfolding untold_of
  whole = ap (λ (x : Machine). settled_of (src 0) n (driven_of m) x (action_of src n x) room) (sym e)

  step_told : (b : List ℕ) (s : Outcome) {due : ℕ} {g : List ℕ} {r : Stepping} {l' g' : List ℕ} → b ≡ m.mem → s ≡ action_of src n k → Stepped due (settled_of (src 0) n (latched_of b) k s room) b g r l' g' →
      Stepped due (untold_of src n t m room) m.mem g r l' g'
  step_told b s {due} {g} {r} {l'} {g'} p q x =
      told (sym whole)
      (subst (λ (y : List ℕ). Stepped due (settled_of (src 0) n (latched_of y) k (action_of src n k) room) y g r l' g') p
      (subst (λ (y : Outcome). Stepped due (settled_of (src 0) n (latched_of b) k y room) b g r l' g') q x))

  untold_stands : (due : ℕ) → scan_of t k.cpu.cursor ≡ Ok due → stands_at t (untold_of src n t m room) due
  untold_stands due h = subst (λ (o : Out). stands_at t o due) (sym whole) (settled_stands t due src n k (driven_of m) room h)

  pub step_stands : (due : ℕ) → scan_of t k.cpu.cursor ≡ Ok due → stands_at t (step_of src n t m room) due
  unfolding step_of
  step_stands due h = told_has src (λ (o : Out). stands_at t o due) (λ i j p s. tt) (untold_of src n t m room) (untold_stands due h)

  -- the step as a run calls it: r the records' answer, s the outcome
  pub step_made : (b : List ℕ) (s : Outcome) {due : ℕ} {g : List ℕ} {r : Stepping} {l' g' : List ℕ} → b ≡ m.mem → s ≡ action_of src n k → scan_of t k.cpu.cursor ≡ Ok due →
      Stepped due (settled_of (src 0) n (latched_of b) k s room) b g r l' g' → StepMade t (untold_of src n t m room) m.mem g r l' g'
  step_made b s {due} p q h x = record { due = due; stepped = step_told b s p q x; stands = untold_stands due h }
