-- The rules, and a cycle of the hold, keep the trace's cursor.
-- Assumes nothing.
use Prim.Native.Nat.{ℕ, ◌+◌, ◌%◌}
use mathlib.Core.Path.{◌≡◌, refl}
use mathlib.Core.Bool.{cond}
use lib.Dec.{eqb}
use Rattle.chip.specs.declared.Cpu.{Cpu}
use Rattle.chip.specs.declared.Machine.{Machine}
use Rattle.chip.specs.Modes.{running}
use Rattle.numbers.specs.Numbers.{code_stop}
use Rattle.chip.specs.State.{wrap_of}
use Rattle.chip.specs.Interrupts.{source_at}
use Rattle.chip.proofs.Laws.{either}
use Rattle.pending.specs.Pending.{no_source}
use Rattle.codes.specs.Decode.{decode}
use Rattle.forms.specs.Operations.{effect_of}
use Rattle.fetch.specs.declared.Code.{Code}
use Rattle.effects.specs.declared.Effect.{Effect}
use Rattle.outcomes.specs.declared.Outcome.{Outcome}
use Rattle.outcomes.specs.declared.Outcome.TheVariants.{Stops, Does}
use Rattle.outcomes.specs.Outcomes.{Skipped, bytes, undefined, idle_of, held_of, entry_of, skipped_of, done_of, skip_of}
use Rattle.rules.specs.Rules.{Choice, itself, referred, pair, nothing, enters_now, choice_of, pair_effect, under, carried_out, after_code, cycles_of, execution_of, rules_of, action_of}

-- an outcome leaves the cursor at x
abbrev pub Keeps : Outcome → ℕ → Type 0
Keeps (Stops k p) x = Unit {0}
Keeps (Does e d t) x = d.cursor ≡ x

done_keeps : (n : ℕ) (c : Cpu) (e : Effect) (cycles to : ℕ) (s : Skipped) → Keeps (done_of n c e cycles to s) c.cursor
unfolding done_of
done_keeps n c e cycles to (bytes s) = refl
done_keeps n c e cycles to undefined = tt

module _ (src : ℕ → Code) (n : ℕ) (m : Machine) where
  abbrev Here : Outcome → Type 0
  Here s = Keeps s m.cpu.cursor

  skip_keeps : (e : Effect) (cycles : ℕ) → Here (skip_of src n m.cpu e cycles)
  unfolding skip_of
  skip_keeps e cycles = done_keeps n m.cpu e cycles (wrap_of n e.next) (skipped_of e.skip (src (wrap_of n e.next)))

  carried_keeps : (next cycles : ℕ) (x : Choice) → Here (carried_out src n m next cycles x)
  unfolding carried_out
  carried_keeps next cycles (itself x y z) = skip_keeps (effect_of (λ p. (src p).b0) (decode x y z) (under m m.cpu.effect) next) cycles
  carried_keeps next cycles (referred x y z) = skip_keeps (effect_of (λ p. (src p).b0) (decode x y z) (under m 0) next) cycles
  carried_keeps next cycles (pair x y) = skip_keeps (pair_effect m next x y) cycles
  carried_keeps next cycles nothing = tt

  execution_keeps : (c : Code) → Here (execution_of src n m c)
  unfolding execution_of
  execution_keeps c =
      either Here (eqb c.info 0) {x = Stops code_stop m.cpu.pc} {y = carried_out src n m (after_code n m.cpu.pc c.info) (cycles_of c.info) (choice_of src c)} tt
      (carried_keeps (after_code n m.cpu.pc c.info) (cycles_of c.info) (choice_of src c))

  entry_keeps : (k : ℕ) (v : Code) → Here (entry_of n m k v)
  unfolding entry_of
  entry_keeps k v = refl

  idle_keeps : Here (idle_of m)
  unfolding idle_of
  idle_keeps = refl

  rules_keep : Here (rules_of src n m)
  unfolding rules_of
  rules_keep =
      let k = enters_now m.mem m.cpu.release in
      let r = execution_of src n m (src m.cpu.pc) in
      let e = entry_of n m k (src (source_at k).vector) in
      either Here (eqb m.cpu.mode running) {x = cond (eqb k no_source) r e} {y = idle_of m}
      (either Here (eqb k no_source) {x = r} {y = e} (execution_keeps (src m.cpu.pc)) (entry_keeps k (src (source_at k).vector))) idle_keeps

  held_keeps : Here (held_of m.cpu)
  unfolding held_of
  held_keeps = refl

  pub action_keep : Here (action_of src n m)
  unfolding action_of
  action_keep = either Here (eqb m.cpu.timing.hold 0) {x = rules_of src n m} {y = held_of m.cpu} rules_keep held_keeps
