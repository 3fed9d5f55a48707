-- With 9 at every undefined code, a step stops with 9 only at a code without a length, run or skipped.
-- Assumes nothing.
use Prim.Native.Nat.{ℕ, ◌-◌, ◌%◌}
use native.Mathlib.Omega.{arith}
use mathlib.Core.Path.{◌≡◌, refl, subst}
use mathlib.Core.Bool.{Bool, true, false, cond}
use mathlib.Core.List.{List}
use lib.Dec.{eqb, ltb}
use lib.ListN.{length}
use borrow.Author.Tests.{eqb-true}
use Rattle.chip.specs.declared.Cpu.{Cpu}
use Rattle.chip.specs.declared.Machine.{Machine}
use Rattle.chip.specs.Interrupts.{source_at}
use Rattle.chip.specs.Modes.{running}
use Rattle.chip.specs.Ports.{driven_of}
use Rattle.chip.specs.State.{wrap_of}
use Rattle.chip.proofs.Laws.{either}
use Rattle.numbers.specs.Numbers.{code_stop, clock_stop, full_stop}
use Rattle.codes.specs.Decode.{decode}
use Rattle.fetch.specs.declared.Code.{Code}
use Rattle.effects.specs.declared.Effect.{Effect}
use Rattle.effects.specs.Effects.{no_skip, skip_ads}
use Rattle.elapse.specs.Elapsed.{elapsed_of}
use Rattle.events.specs.Records.{records_of}
use Rattle.forms.specs.Operations.{effect_of}
use Rattle.pending.specs.Pending.{no_source}
use Rattle.portlog.specs.Log.{logged}
use Rattle.outcomes.specs.declared.Outcome.{Outcome}
use Rattle.outcomes.specs.declared.Outcome.TheVariants.{Stops, Does}
use Rattle.outcomes.specs.Outcomes.{Skipped, bytes, undefined, skipped_of, done_of, skip_of, entry_of, idle_of, held_of}
use Rattle.rules.specs.Rules.{Choice, itself, referred, pair, nothing, choice_of, pair_effect, under, carried_out, after_code, cycles_of, execution_of, enters_now, rules_of, action_of}
use Rattle.step.specs.Step.{Out, moved, stopped, last_clock, ruled_of, logged_of, settled_of, untold_of}

-- what is skipped as undefined has no length
abbrev Passed : Code → Skipped → Type 0
Passed c (bytes s) = Unit {0}
Passed c undefined = c.info ≡ 0

passed_by_lem : (c : Code) (b : Bool) → eqb c.info 0 ≡ b → Passed c (cond b undefined (bytes (c.info % 4)))
passed_by_lem c true e = eqb-true c.info 0 e
passed_by_lem c false e = tt

passed : (skip : ℕ) (c : Code) → Passed c (skipped_of skip c)
unfolding skipped_of
passed skip c =
    either (Passed c) (eqb skip no_skip) {x = bytes 0} tt (either (Passed c) (eqb skip skip_ads) {x = bytes _} tt (passed_by_lem c (eqb c.info 0) refl))

module _ (src : ℕ → Code) where
  -- what stops with 9 does so at a code without a length
  abbrev Nine : Outcome → Type 0
  Nine (Stops k p) = k ≡ code_stop → (src p).info ≡ 0
  Nine (Does e d t) = Unit {0}

  module _ (n : ℕ) where
    done_nine : (c : Cpu) (e : Effect) (cycles to : ℕ) (s : Skipped) → Passed (src to) s → Nine (done_of n c e cycles to s)
    unfolding done_of
    done_nine c e cycles to (bytes s) h = tt
    done_nine c e cycles to undefined h = λ q. h

    skip_nine : (c : Cpu) (e : Effect) (cycles : ℕ) → Nine (skip_of src n c e cycles)
    unfolding skip_of
    skip_nine c e cycles =
        let to = wrap_of n e.next in done_nine c e cycles to (skipped_of e.skip (src to)) (passed e.skip (src to))

    module _ (m : Machine) where
      carried_nine : (next cycles : ℕ) (x : Choice) → Nine (carried_out src n m next cycles x)
      unfolding carried_out
      carried_nine next cycles (itself x y z) =
          skip_nine m.cpu (effect_of (λ p. (src p).b0) (decode x y z) (under m m.cpu.effect) next) cycles
      carried_nine next cycles (referred x y z) = skip_nine m.cpu (effect_of (λ p. (src p).b0) (decode x y z) (under m 0) next) cycles
      carried_nine next cycles (pair x y) = skip_nine m.cpu (pair_effect m next x y) cycles
      carried_nine next cycles nothing = λ q. absurd (omega arith)

      run_by : (b : Bool) → eqb (src m.cpu.pc).info 0 ≡ b → (o : Outcome) → Nine o → Nine (cond b (Stops code_stop m.cpu.pc) o)
      run_by true e o h = λ q. eqb-true (src m.cpu.pc).info 0 e
      run_by false e o h = h

      run_nine : Nine (execution_of src n m (src m.cpu.pc))
      unfolding execution_of
      run_nine =
          let c = src m.cpu.pc in
          run_by (eqb c.info 0) refl (carried_out src n m (after_code n m.cpu.pc c.info) (cycles_of c.info) (choice_of src c))
          (carried_nine (after_code n m.cpu.pc c.info) (cycles_of c.info) (choice_of src c))

      entry_nine : (k : ℕ) (v : Code) → Nine (entry_of n m k v)
      unfolding entry_of
      entry_nine k v = tt

      idle_nine : Nine (idle_of m)
      unfolding idle_of
      idle_nine = tt

      held_nine : Nine (held_of m.cpu)
      unfolding held_of
      held_nine = tt

      rules_nine : Nine (rules_of src n m)
      unfolding rules_of
      rules_nine =
          let k = enters_now m.mem m.cpu.release in
          either Nine (eqb m.cpu.mode running) (either Nine (eqb k no_source) run_nine (entry_nine k (src (source_at k).vector))) idle_nine

      action_nine : Nine (action_of src n m)
      unfolding action_of
      action_nine = either Nine (eqb m.cpu.timing.hold 0) rules_nine held_nine

    -- the stops of a step
    abbrev At : Out → Type 0
    At (moved m w) = Unit {0}
    At (stopped k p) = k ≡ code_stop → (src p).info ≡ 0

    logged_at : (was : ℕ → ℕ) (m : Machine) (room : ℕ) → At (logged_of was m room)
    unfolding logged_of
    logged_at was m room =
        let w = logged m.cpu.clock was (driven_of m) in
        either At (ltb room (length w)) {x = stopped full_stop 0} {y = moved m w} (λ q. absurd (omega arith)) tt

    settled_at : (v : Code) (was : ℕ → ℕ) (r : Machine) (o : Outcome) (room : ℕ) → Nine o → At (settled_of v n was r o room)
    unfolding settled_of
    settled_at v was r (Stops k p) room h = h
    settled_at v was r (Does e d t) room h =
        either At (ltb (last_clock - d.clock) t) {x = stopped clock_stop 0} (λ q. absurd (omega arith))
        (logged_at was (elapsed_of v n r e t (ruled_of r e d t)) room)

    pub untold_at : (t : List ℕ) (m : Machine) (room p : ℕ) → untold_of src n t m room ≡ stopped code_stop p → (src p).info ≡ 0
    unfolding untold_of
    untold_at t m room p e =
        let r = records_of (src 0) n t m in
        subst At e (settled_at (src 0) (driven_of m) r (action_of src n r) room (action_nine r)) refl
