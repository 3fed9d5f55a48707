-- What follows a step's records does not see the trace's cursor: from a machine with another cursor the rules and the clocks do the same, and keep that cursor.
-- Assumes nothing.
use Prim.Native.Nat.{ℕ, ◌-◌, ◌*◌}
use mathlib.Core.Path.{◌≡◌, ◌∙◌, refl, ap}
use mathlib.Core.Bool.{Bool, true, false, cond}
use lib.Dec.{eqb, ltb}
use lib.ListN.{length}
use Rattle.chip.specs.declared.Machine.{Machine}
use Rattle.numbers.specs.Numbers.{clock_stop, full_stop, code_stop}
use Rattle.chip.specs.Interrupts.{source_at}
use Rattle.chip.specs.Modes.{running}
use Rattle.chip.specs.Ports.{driven_of}
use Rattle.chip.specs.Scalars.{with_cursor}
use Rattle.chip.specs.State.{at, wrap_of}
use Rattle.codes.specs.Decode.{decode}
use Rattle.fetch.specs.declared.Code.{Code}
use Rattle.effects.specs.declared.Effect.{Effect}
use Rattle.effects.specs.Operands.{pointed_in}
use Rattle.control.specs.Control.{jump}
use Rattle.postincrement.specs.Pairs.{then_step_reg, then_increment_pair}
use Rattle.forms.specs.Operations.{effect_of}
use Rattle.timers.specs.declared.Passed.{Passed}
use Rattle.timers.specs.declared.Passed.TheVariants.{On, Reset}
use Rattle.timers.specs.Clock.{clocks_of}
use Rattle.timers.specs.Rates.{rate_of}
use Rattle.pending.specs.Pending.{no_source}
use Rattle.outcomes.specs.declared.Outcome.{Outcome}
use Rattle.outcomes.specs.declared.Outcome.TheVariants.{Stops, Does}
use Rattle.outcomes.specs.Outcomes.{Skipped, bytes, undefined, idle_of, held_of, entry_of, skipped_of, done_of, skip_of}
use Rattle.rules.specs.Rules.{Choice, itself, referred, pair, nothing, enters_now, choice_of, first_write, pair_effect, under, carried_out, after_code, cycles_of, execution_of, rules_of, action_of}
use Rattle.elapse.specs.Elapsed.{timed_of, clocked_to, passed_by, elapsed_of}
use Rattle.portlog.specs.Log.{logged}
use Rattle.step.specs.Step.{Out, moved, stopped, last_clock, ruled_of, logged_of, settled_of, told_of}

-- a machine, an outcome and the end of a step with another cursor
abbrev pub but : Machine → ℕ → Machine
but m k = at m.mem (with_cursor m.cpu k)

abbrev pub outcome_but : ℕ → Outcome → Outcome
outcome_but x (Stops k p) = Stops k p
outcome_but x (Does e d t) = Does e (with_cursor d x) t

abbrev pub out_but : ℕ → Out → Out
out_but x (moved m w) = moved (but m x) w
out_but x (stopped k p) = stopped k p

-- either side of a test
both_by : {A B : Type 0} (f : A → B) (b : Bool) (x y : A) (x' y' : B) → x' ≡ f x → y' ≡ f y → cond b x' y' ≡ f (cond b x y)
both_by f true x y x' y' p q = p
both_by f false x y x' y' p q = q

module _ (src : ℕ → Code) (n : ℕ) (m : Machine) (k : ℕ) where
  done_but : (e : Effect) (cycles to : ℕ) (s : Skipped) → done_of n (with_cursor m.cpu k) e cycles to s ≡ outcome_but k (done_of n m.cpu e cycles to s)
  unfolding done_of
  done_but e cycles to (bytes s) = refl
  done_but e cycles to undefined = refl

  skip_but : (e : Effect) (cycles : ℕ) → skip_of src n (with_cursor m.cpu k) e cycles ≡ outcome_but k (skip_of src n m.cpu e cycles)
  unfolding skip_of
  skip_but e cycles = done_but e cycles (wrap_of n e.next) (skipped_of e.skip (src (wrap_of n e.next)))

  pair_but : (next x y : ℕ) → pair_effect (but m k) next x y ≡ pair_effect m next x y
  unfolding pair_effect first_write then_step_reg then_increment_pair pointed_in
  pair_but next x y = refl

  carried_but : (next cycles : ℕ) (x : Choice) → carried_out src n (but m k) next cycles x ≡ outcome_but k (carried_out src n m next cycles x)
  unfolding carried_out
  carried_but next cycles (itself x y z) = skip_but (effect_of (λ p. (src p).b0) (decode x y z) (under m m.cpu.effect) next) cycles
  carried_but next cycles (referred x y z) = skip_but (effect_of (λ p. (src p).b0) (decode x y z) (under m 0) next) cycles
  carried_but next cycles (pair x y) =
      ap (λ (e : Effect). skip_of src n (with_cursor m.cpu k) e cycles) (pair_but next x y) ∙ skip_but (pair_effect m next x y) cycles
  carried_but next cycles nothing = refl

  execution_but : (c : Code) → execution_of src n (but m k) c ≡ outcome_but k (execution_of src n m c)
  unfolding execution_of
  execution_but c =
      both_by (outcome_but k) (eqb c.info 0) (Stops code_stop m.cpu.pc) (carried_out src n m (after_code n m.cpu.pc c.info) (cycles_of c.info) (choice_of src c)) _ _
      refl (carried_but (after_code n m.cpu.pc c.info) (cycles_of c.info) (choice_of src c))

  entry_but : (i : ℕ) (v : Code) → entry_of n (but m k) i v ≡ outcome_but k (entry_of n m i v)
  unfolding entry_of
  entry_but i v = refl

  idle_but : idle_of (but m k) ≡ outcome_but k (idle_of m)
  unfolding idle_of jump
  idle_but = refl

  held_but : held_of (with_cursor m.cpu k) ≡ outcome_but k (held_of m.cpu)
  unfolding held_of jump
  held_but = refl

  rules_but : rules_of src n (but m k) ≡ outcome_but k (rules_of src n m)
  unfolding rules_of
  rules_but =
      let i = enters_now m.mem m.cpu.release in
      let r = execution_of src n m (src m.cpu.pc) in
      let e = entry_of n m i (src (source_at i).vector) in
      both_by (outcome_but k) (eqb m.cpu.mode running) (cond (eqb i no_source) r e) (idle_of m) _ _
      (both_by (outcome_but k) (eqb i no_source) r e _ _ (execution_but (src m.cpu.pc)) (entry_but i (src (source_at i).vector))) idle_but

  pub action_but : action_of src n (but m k) ≡ outcome_but k (action_of src n m)
  unfolding action_of
  action_but = both_by (outcome_but k) (eqb m.cpu.timing.hold 0) (rules_of src n m) (held_of m.cpu) _ _ rules_but held_but

-- the clocks after the rules; v is the code at 0000H
module _ (v : Code) (n : ℕ) (k : ℕ) where
  clocked_but : (m : Machine) (p : Passed) → clocked_to v n (but m k) p ≡ but (clocked_to v n m p) k
  clocked_but m (On t) = refl
  clocked_but m (Reset t) = refl

  elapsed_but : (r : Machine) (e : Effect) (t : ℕ) (m : Machine) → elapsed_of v n (but r k) e t (but m k) ≡ but (elapsed_of v n r e t m) k
  unfolding elapsed_of passed_by timed_of
  elapsed_but r e t m = clocked_but m (clocks_of (t * rate_of r) (timed_of r.cpu.mode e m))

  logged_but : (was : ℕ → ℕ) (m : Machine) (room : ℕ) → logged_of was (but m k) room ≡ out_but k (logged_of was m room)
  unfolding logged_of
  logged_but was m room =
      let w = logged m.cpu.clock was (driven_of m) in
      both_by (out_but k) (ltb room (length w)) (stopped full_stop 0) (moved m w) _ _ refl refl

  pub settled_but : (was : ℕ → ℕ) (r : Machine) (s : Outcome) (room : ℕ) → settled_of v n was (but r k) (outcome_but k s) room ≡ out_but k (settled_of v n was r s room)
  unfolding settled_of
  settled_but was r (Stops c p) room = refl
  settled_but was r (Does e d t) room =
      let m = elapsed_of v n r e t (ruled_of r e d t) in
      both_by (out_but k) (ltb (last_clock - d.clock) t) (stopped clock_stop 0) (logged_of was m room) _ _ refl
      (ap (λ (x : Machine). logged_of was x room) (elapsed_but r e t (ruled_of r e d t)) ∙ logged_but was m room)

-- a stop told by the code at its address
pub told_but : (src : ℕ → Code) (k : ℕ) (o : Out) → told_of src (out_but k o) ≡ out_but k (told_of src o)
told_but src k (moved m w) = refl
told_but src k (stopped c p) = refl
