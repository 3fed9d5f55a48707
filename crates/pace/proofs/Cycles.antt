-- Document 01, "One step", 2 to 4, with the hold of document 02, No. 2: what a step of the plain machine does takes a cycle at least, from the clock
-- as the step's records left it.
-- Assumes nothing.
use Prim.Native.Nat.{ℕ, ◌≤◌}
use native.Mathlib.Omega.{arith}
use mathlib.Core.Path.{◌≡◌, refl}
use mathlib.Core.Bool.{Bool, true, cond, ◌&&◌}
use mathlib.Core.List.{List, [], ◌∷◌, ◌++◌}
use mathlib.Core.Logic.{◌⊎◌, inl, inr}
use borrow.Author.Tests.{leb-true, eq-eqb}
use lib.Dec.{eqb, ltb, leb}
use Rattle.numbers.specs.Numbers.{code_stop}
use Rattle.codes.specs.Cells.{bits_of, fixed}
use Rattle.codes.specs.Row.{Row, undefined, len}
use Rattle.codes.specs.Rows.{rows}
use Rattle.codes.specs.Decode.{fits, best, row_of, info_for, info_of, decode}
use Rattle.record.proofs.Booleans.{both}
use Rattle.chip.specs.declared.Cpu.{Cpu}
use Rattle.chip.specs.declared.Machine.{Machine}
use Rattle.chip.specs.Interrupts.{source_at}
use Rattle.chip.specs.Modes.{running}
use Rattle.chip.specs.State.{wrap_of}
use Rattle.chip.proofs.Laws.{either}
use Rattle.fetch.specs.declared.Code.{Code}
use Rattle.fetch.specs.declared.Origin.TheVariants.{Rom}
use Rattle.fetch.specs.Fetch.{rom_byte, code_at}
use Rattle.effects.specs.declared.Effect.{Effect}
use Rattle.forms.specs.Operations.{effect_of}
use Rattle.pending.specs.Pending.{no_source}
use Rattle.outcomes.specs.declared.Outcome.{Outcome}
use Rattle.outcomes.specs.declared.Outcome.TheVariants.{Stops, Does}
use Rattle.outcomes.specs.Outcomes.{Skipped, bytes, undefined as unknown, skipped_of, done_of, skip_of, entry_of, idle_of, held_of}
use Rattle.rules.specs.Rules.{Choice, itself, referred, pair, nothing, choice_of, pair_effect, under, carried_out, after_code, cycles_of, execution_of, enters_now, rules_of, action_of}

-- length and cycles of a code: it is undefined, or it takes a cycle
abbrev pub Counts : ℕ → Type 0
Counts i = (i ≡ 0) ⊎ (1 ≤ cycles_of i)

abbrev RowCounts : Row → Type 0
RowCounts w = Counts (info_for (len w) w.cycles)

-- each of the rows has a cycle: antt computes it over the rows alone, so that nothing is asked of a code's bytes
abbrev timed : List Row → Bool
timed [] = true
timed (w ∷ ws) = leb 1 w.cycles && timed ws

row_counts : (w : Row) → 1 ≤ w.cycles → RowCounts w
row_counts w h = inr (omega arith)

best_counts : (f : Row → Bool) (w : Row) (ws : List Row) → timed ws ≡ true → RowCounts w → RowCounts (best f w ws)
best_counts f w [] t h = h
best_counts f w (v ∷ vs) t h =
    let b = both (leb 1 v.cycles) (timed vs) t in
    let c = f v && ltb (fixed w.cells) (fixed v.cells) in
    best_counts f (cond c v w) vs b.1 (either RowCounts c {x = v} {y = w} (row_counts v (leb-true 1 v.cycles b.0)) h)

info_counts : (x y : ℕ) → Counts (info_of x y)
unfolding info_of row_of rows
info_counts x y = best_counts (fits (bits_of x ++ bits_of y)) undefined rows refl (inl refl)

pub code_counts : (rom : List ℕ) (p : ℕ) → Counts (code_at Rom rom p).info
unfolding code_at
code_counts rom p = info_counts (rom_byte rom p 0) (rom_byte rom p 1)

-- an outcome has the clock still at x, to which the step adds its cycles, and these are one or more
abbrev pub Takes : ℕ → Outcome → Type 0
Takes x (Stops k p) = Unit {0}
Takes x (Does e d t) = (d.clock ≡ x) × (1 ≤ t)

done_takes : (n : ℕ) (c : Cpu) (e : Effect) (cycles to : ℕ) (s : Skipped) → 1 ≤ cycles → Takes c.clock (done_of n c e cycles to s)
unfolding done_of
done_takes n c e cycles to (bytes s) h = (refl, omega arith)
done_takes n c e cycles to unknown h = tt

module _ (src : ℕ → Code) (n : ℕ) (m : Machine) where
  abbrev Here : Outcome → Type 0
  Here s = Takes m.cpu.clock s

  skip_takes : (e : Effect) (cycles : ℕ) → 1 ≤ cycles → Here (skip_of src n m.cpu e cycles)
  unfolding skip_of
  skip_takes e cycles h = done_takes n m.cpu e cycles (wrap_of n e.next) (skipped_of e.skip (src (wrap_of n e.next))) h

  carried_takes : (next cycles : ℕ) (x : Choice) → 1 ≤ cycles → Here (carried_out src n m next cycles x)
  unfolding carried_out
  carried_takes next cycles (itself x y z) h = skip_takes (effect_of (λ p. (src p).b0) (decode x y z) (under m m.cpu.effect) next) cycles h
  carried_takes next cycles (referred x y z) h = skip_takes (effect_of (λ p. (src p).b0) (decode x y z) (under m 0) next) cycles h
  carried_takes next cycles (pair x y) h = skip_takes (pair_effect m next x y) cycles h
  carried_takes next cycles nothing h = tt

  execution_takes : (c : Code) → Counts c.info → Here (execution_of src n m c)
  unfolding execution_of
  execution_takes c (inl e) = rw (eq-eqb c.info 0 e) tt
  execution_takes c (inr h) =
      let next = after_code n m.cpu.pc c.info in
      either Here (eqb c.info 0) {x = Stops code_stop m.cpu.pc} {y = carried_out src n m next (cycles_of c.info) (choice_of src c)} tt
      (carried_takes next (cycles_of c.info) (choice_of src c) h)

  entry_takes : (k : ℕ) (v : Code) → Here (entry_of n m k v)
  unfolding entry_of
  entry_takes k v = (refl, omega arith)

  idle_takes : Here (idle_of m)
  unfolding idle_of
  idle_takes = (refl, omega arith)

  held_takes : Here (held_of m.cpu)
  unfolding held_of
  held_takes = (refl, omega arith)

  -- an instruction alone takes its cycles from its code
  module _ (counts : (p : ℕ) → Counts (src p).info) where
    rules_take : Here (rules_of src n m)
    unfolding rules_of
    rules_take =
        let k = enters_now m.mem m.cpu.release in
        let r = execution_of src n m (src m.cpu.pc) in
        let e = entry_of n m k (src (source_at k).vector) in
        either Here (eqb m.cpu.mode running) {x = cond (eqb k no_source) r e} {y = idle_of m}
        (either Here (eqb k no_source) {x = r} {y = e} (execution_takes (src m.cpu.pc) (counts m.cpu.pc))
        (entry_takes k (src (source_at k).vector))) idle_takes

    pub action_takes : Here (action_of src n m)
    unfolding action_of
    action_takes = either Here (eqb m.cpu.timing.hold 0) {x = rules_of src n m} {y = held_of m.cpu} rules_take held_takes
