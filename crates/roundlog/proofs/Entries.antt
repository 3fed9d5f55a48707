-- A step's records in front of a log that goes on from its clock are a log from the clock before the step: they are whole, of driven ports and nibbles, and of one
-- clock, which four bytes hold, as a step that would pass it stops. Of any ROM, any trace and any machine.
-- Assumes nothing.
use Prim.Native.Nat.{ℕ, ◌+◌, ◌-◌, ◌*◌, ◌/◌, ◌%◌, ◌≤◌, ◌<◌}
use native.Mathlib.Omega.{arith}
use mathlib.Core.Path.{◌≡◌, refl, subst, subst⁻¹}
use mathlib.Core.Bool.{Bool, true, false, cond}
use mathlib.Core.List.{List, [], ◌∷◌, ◌++◌, append_assoc}
use borrow.Author.Tests.{le-leb, ltb-false}
use lib.Dec.{eqb, ltb}
use lib.ListN.{length}
use Rattle.numbers.specs.Numbers.{clock_stop, full_stop}
use Rattle.litres.specs.Log.{driven_ports, among, highest_nibble, is_sound}
use Rattle.litres.proofs.Laws.{LogFrom, log_more, log_earlier}
use Rattle.chip.specs.declared.Machine.{Machine}
use Rattle.chip.specs.Ports.{driven_of}
use Rattle.chip.proofs.Laws.{either}
use Rattle.timers.specs.Rates.{rate_of}
use Rattle.fetch.specs.declared.Code.{Code}
use Rattle.fetch.specs.declared.Origin.TheVariants.{Rom}
use Rattle.fetch.specs.Fetch.{code_at}
use Rattle.events.specs.Records.{records_of}
use Rattle.outcomes.specs.declared.Outcome.{Outcome}
use Rattle.outcomes.specs.declared.Outcome.TheVariants.{Stops, Does}
use Rattle.rules.specs.Rules.{action_of}
use Rattle.portlog.specs.Log.{log_record, change_of, changes_of, logged}
use Rattle.portlog.proofs.Driving.{latched_small}
use Rattle.elapse.specs.Elapsed.{elapsed_of}
use Rattle.elapse.proofs.Elapsing.{passed_clock}
use Rattle.step.specs.Step.{Out, moved, stopped, last_clock, ruled_of, logged_of, settled_of, step_of, untold_of}
use Rattle.step.proofs.Telling.{told_has}
use Rattle.steps.specs.Steps.{step_by}
use Rattle.pace.proofs.Cycles.{Takes, code_counts, action_takes}
use Rattle.pace.proofs.Pace.{step_takes}

-- ports that the log speaks of
abbrev Driven : List ℕ → Type 0
Driven [] = Unit {0}
Driven (p ∷ ps) = (among p driven_ports ≡ true) × Driven ps

-- the records of one clock
module _ (clock : ℕ) (was is : ℕ → ℕ) (fits : clock ≤ last_clock) (small : (p : ℕ) → is p < 16) where
  record_then : (p : ℕ) (log : List ℕ) → among p driven_ports ≡ true → LogFrom clock log → LogFrom clock (log_record clock p (is p) ++ log)
  unfolding is_sound
  record_then p log d h =
      let back : clock % 256 + 256 * (clock / 256 % 256) + 65536 * (clock / 65536 % 256 + 256 * (clock / 16777216)) ≡ clock = omega arith in
      log_more (clock % 256) (clock / 256 % 256) (clock / 65536 % 256) (clock / 16777216) p (is p) log clock (omega arith)
      (simp (d, le-leb (is p) highest_nibble (omega (arith, small p)))) (subst⁻¹ (λ (x : ℕ). LogFrom x log) back h)

  change_then : (p : ℕ) (log : List ℕ) → among p driven_ports ≡ true → LogFrom clock log → LogFrom clock (change_of clock was is p ++ log)
  unfolding change_of
  change_then p log d h =
      either (λ (r : List ℕ). LogFrom clock (r ++ log)) (eqb (was p) (is p)) {x = []} {y = log_record clock p (is p)} h (record_then p log d h)

  changes_then : (ps log : List ℕ) → Driven ps → LogFrom clock log → LogFrom clock (changes_of clock was is ps ++ log)
  unfolding changes_of
  changes_then [] log d h = h
  changes_then (p ∷ ps) log d h =
      subst⁻¹ (LogFrom clock) (append_assoc (change_of clock was is p) (changes_of clock was is ps) log)
      (change_then p (changes_of clock was is ps ++ log) d.0 (changes_then ps log d.1 h))

  logged_then : (log : List ℕ) → LogFrom clock log → LogFrom clock (logged clock was is ++ log)
  unfolding logged
  logged_then log h = changes_then driven_ports log (refl, (refl, (refl, (refl, (refl, tt))))) h

-- a step that moves on enters its records: they fit the room, and its clock fits
abbrev Enters : (ℕ → ℕ) → ℕ → Out → Type 0
Enters was room (moved m w) = (m.cpu.clock ≤ last_clock) × (length w ≤ room) × (w ≡ logged m.cpu.clock was (driven_of m))
Enters was room (stopped k p) = Unit {0}

logged_by : (was : ℕ → ℕ) (m : Machine) (room : ℕ) (w : List ℕ) (b : Bool) → ltb room (length w) ≡ b → w ≡ logged m.cpu.clock was (driven_of m) →
    m.cpu.clock ≤ last_clock → Enters was room (cond b (stopped full_stop 0) (moved m w))
logged_by was m room w true e q h = tt
logged_by was m room w false e q h = (h, ltb-false room (length w) e, q)

logged_enters : (was : ℕ → ℕ) (m : Machine) (room : ℕ) → m.cpu.clock ≤ last_clock → Enters was room (logged_of was m room)
unfolding logged_of
logged_enters was m room h = let w = logged m.cpu.clock was (driven_of m) in logged_by was m room w (ltb room (length w)) refl refl h

-- a step that takes cycles, t of them from the clock x on
settled_by : (was : ℕ → ℕ) (m : Machine) (x t room : ℕ) (b : Bool) → ltb (last_clock - x) t ≡ b → 1 ≤ t → m.cpu.clock ≡ x + t →
    Enters was room (cond b (stopped clock_stop 0) (logged_of was m room))
settled_by was m x t room true e some c = tt
settled_by was m x t room false e some c = logged_enters was m room (omega (arith, ltb-false (last_clock - x) t e))

settled_enters : (x : ℕ) (v : Code) (n : ℕ) (was : ℕ → ℕ) (r : Machine) (s : Outcome) (room : ℕ) → Takes x s → Enters was room (settled_of v n was r s room)
unfolding settled_of elapsed_of
settled_enters x v n was r (Stops k p) room h = tt
settled_enters x v n was r (Does e d t) room h =
    let m = ruled_of r e d t in
    settled_by was (elapsed_of v n r e t m) d.clock t room (ltb (last_clock - d.clock) t) refl h.1
    (passed_clock v n r.cpu.mode e (t * rate_of r) m)

step_enters : (rom t : List ℕ) (m : Machine) (room : ℕ) → Enters (driven_of m) room (step_by Rom rom t m room)
unfolding step_of
step_enters rom t m room =
    let src = code_at Rom rom in
    let r = records_of (src 0) (length rom) t m in
    told_has src (Enters (driven_of m) room) (λ k j p h. tt) (untold_of src (length rom) t m room)
    (settled_enters r.cpu.clock (src 0) (length rom) (driven_of m) r (action_of src (length rom) r) room (action_takes src (length rom) r (code_counts rom)))

pub step_then : (rom t : List ℕ) (m : Machine) (room : ℕ) (m' : Machine) (w : List ℕ) → step_by Rom rom t m room ≡ moved m' w →
    (length w ≤ room) × ((log : List ℕ) → LogFrom m'.cpu.clock log → LogFrom m.cpu.clock (w ++ log))
step_then rom t m room m' w q =
    let e = subst (Enters (driven_of m) room) q (step_enters rom t m room) in
    let later = step_takes rom t m room m' w q in (
      e.1,
      λ log h.
          log_earlier m.cpu.clock m'.cpu.clock (w ++ log) (omega arith)
          (subst⁻¹ (λ (x : List ℕ). LogFrom m'.cpu.clock (x ++ log)) e.2
          (logged_then m'.cpu.clock (driven_of m) (driven_of m') e.0 (latched_small m'.mem) log h)),
    )
