-- The three phases make up the rules, or the cycle of the hold that takes their place.
-- Assumes nothing.
use Prim.Native.Nat.{ℕ, ◌≤◌}
use native.Mathlib.Omega.{arith}
use mathlib.Core.Path.{◌≡◌, ◌∙◌, refl, ap}
use mathlib.Core.Bool.{Bool, true, false, cond}
use mathlib.Core.List.{List}
use lib.Dec.{eqb}
use borrow.Author.Tests.{eq-eqb, ne_eqb, eqb-true}
use Rattle.chip.specs.Interrupts.{source_at}
use Rattle.chip.specs.Modes.{running}
use Rattle.numbers.specs.Numbers.{code_stop}
use Rattle.chip.specs.declared.Machine.{Machine}
use Rattle.codes.specs.declared.Instr.{Instr}
use Rattle.codes.specs.Decode.{decode}
use Rattle.fetch.specs.declared.Code.{Code}
use Rattle.effects.specs.declared.Effect.{Effect}
use Rattle.pending.specs.Pending.{no_source}
use Rattle.outcomes.specs.declared.Outcome.{Outcome}
use Rattle.outcomes.specs.declared.Outcome.TheVariants.{Stops}
use Rattle.outcomes.specs.Outcomes.{entry_of, idle_of, held_of}
use Rattle.rules.specs.declared.Met.{Met}
use Rattle.rules.specs.Rules.{Choice, itself, referred, pair, nothing, choice_of, carried_out, after_code, cycles_of, enters_now, execution_of, rules_of, action_of}
use Rattle.rules.specs.Phases.{undefined_kind, entry_kind, idle_kind, held_kind, held_source, chosen_as, met_as, bare, met_code, fetched_of, executed_of, resolved_of}

-- what is met of a code is no interrupt
choice_kind : (x : Choice) → (chosen_as x).kind ≤ 3
choice_kind (itself x y z) = omega arith
choice_kind (referred x y z) = omega arith
choice_kind (pair x y) = omega arith
choice_kind nothing = omega arith

code_kind_by : (b : Bool) (x : Choice) (next cycles n : ℕ) → (cond b (bare undefined_kind 0 n) (met_as (chosen_as x) next cycles n)).kind ≤ 4
code_kind_by true x next cycles n = omega arith
code_kind_by false x next cycles n = let z = choice_kind x in omega arith

pub code_kind : (src : ℕ → Code) (n pc : ℕ) (c : Code) → (met_code src n pc c).kind ≤ 4
unfolding met_code
code_kind src n pc c = code_kind_by (eqb c.info 0) (choice_of src c) (after_code n pc c.info) (cycles_of c.info) n

-- which source is served, from the one number that tells it and the hold
module _ (hold : ℕ) (l : List ℕ) (release k : ℕ) (e : k ≡ cond (eqb hold 0) (enters_now l release) held_source) where
  served_by : (b : Bool) → eqb hold 0 ≡ b → k ≡ cond b (enters_now l release) held_source → (k ≡ held_source → ⊥) → (hold ≡ 0) × (k ≡ enters_now l release)
  served_by true q s h = (eqb-true hold 0 q, s)
  served_by false q s h = absurd (h s)

  pub now_served : (k ≡ held_source → ⊥) → (hold ≡ 0) × (k ≡ enters_now l release)
  now_served h = served_by (eqb hold 0) refl e h

  pub now_held : (hold ≡ 0 → k ≤ no_source) → k ≡ held_source → hold ≡ 0 → ⊥
  now_held f h q = let z = f q in omega arith

module _ (src : ℕ → Code) (m : Machine) where
  -- the outcome of what is met
  abbrev after : Met → Outcome
  after x = resolved_of src m x (executed_of src m (decode x.b0 x.b1 x.b2) x)

  -- a code that is carried out, or a REF that names nothing
  carried_by : (x : Choice) (next cycles n : ℕ) → after (met_as (chosen_as x) next cycles n) ≡ carried_out src n m next cycles x
  unfolding resolved_of executed_of carried_out
  carried_by (itself x y z) next cycles n = refl
  carried_by (referred x y z) next cycles n = refl
  carried_by (pair x y) next cycles n = refl
  carried_by nothing next cycles n = refl

  code_by : (x : Choice) (next cycles n : ℕ) (b : Bool) → after (cond b (bare undefined_kind 0 n) (met_as (chosen_as x) next cycles n)) ≡
      cond b (Stops code_stop m.cpu.pc) (carried_out src n m next cycles x)
  unfolding resolved_of
  code_by x next cycles n true = refl
  code_by x next cycles n false = carried_by x next cycles n

  code_outcome : (n : ℕ) (c : Code) → after (met_code src n m.cpu.pc c) ≡ execution_of src n m c
  unfolding met_code execution_of
  code_outcome n c = code_by (choice_of src c) (after_code n m.cpu.pc c.info) (cycles_of c.info) n (eqb c.info 0)

  abbrev now : ℕ
  now = enters_now m.mem m.cpu.release

  -- an interrupt, a cycle of idle or stop mode, a cycle of the hold
  entry_outcome : (n k : ℕ) → after (bare entry_kind k n) ≡ entry_of n m k (src (source_at k).vector)
  unfolding resolved_of
  entry_outcome n k = refl

  idle_outcome : (n : ℕ) → after (bare idle_kind 0 n) ≡ idle_of m
  unfolding resolved_of
  idle_outcome n = refl

  held_outcome : (n : ℕ) → after (bare held_kind 0 n) ≡ held_of m.cpu
  unfolding resolved_of
  held_outcome n = refl

  phases_by : (n : ℕ) (h a b : Bool) →
      after (cond h (cond a (cond b (met_code src n m.cpu.pc (src m.cpu.pc)) (bare entry_kind now n)) (bare idle_kind 0 n)) (bare held_kind 0 n)) ≡
      cond h (cond a (cond b (execution_of src n m (src m.cpu.pc)) (entry_of n m now (src (source_at now).vector))) (idle_of m)) (held_of m.cpu)
  phases_by n true true true = code_outcome n (src m.cpu.pc)
  phases_by n true true false = entry_outcome n now
  phases_by n true false b = idle_outcome n
  phases_by n false a b = held_outcome n

  -- a cycle of idle or stop mode outside the hold, and one of the hold
  pub acts_idle : (n : ℕ) → m.cpu.timing.hold ≡ 0 → (m.cpu.mode ≡ running → ⊥) → action_of src n m ≡ idle_of m
  unfolding action_of rules_of
  acts_idle n q h = rw (eq-eqb m.cpu.timing.hold 0 q, ne_eqb m.cpu.mode running h)

  pub acts_held : (n : ℕ) → (m.cpu.timing.hold ≡ 0 → ⊥) → action_of src n m ≡ held_of m.cpu
  unfolding action_of
  acts_held n q = rw (ne_eqb m.cpu.timing.hold 0 q)

  phases_act : (n : ℕ) → after (fetched_of src n m) ≡ action_of src n m
  unfolding fetched_of rules_of action_of
  phases_act n = phases_by n (eqb m.cpu.timing.hold 0) (eqb m.cpu.mode running) (eqb now no_source)

  -- the outcome of a run that calls the phases one after another
  pub rules_told : (n : ℕ) (x : Met) (i : Instr) (e : Effect) (t : Outcome) → x ≡ fetched_of src n m → i ≡ decode x.b0 x.b1 x.b2 → e ≡ executed_of src m i x → t ≡ resolved_of src m x e → t ≡ action_of src n m
  rules_told n x i e t p d q h =
      h ∙ ap (resolved_of src m x) (q ∙ ap (λ (y : Instr). executed_of src m y x) d) ∙ ap after p ∙ phases_act n
