-- Document 02, No. 7: "State, log, steps and address at the stop are the same as under 9". The machine with 9 at every undefined code (`untold_by`) is the machine
-- with 17 and 18 made 9, over any number of steps from any machine: but for the number of a stop nothing differs, and the code at the stop's address says it. Of a
-- ROM of bytes that code is undefined.
-- Assumes nothing.
use Rattle.std.specs.Prelude.{ℕ, ◌≡◌, cond, List, eqb}
use Rattle.chip.specs.declared.Machine.{Machine}
use Rattle.numbers.specs.Numbers.{code_stop, register_stop, bank_stop}
use Rattle.codes.specs.declared.Kind.TheVariants.{Defined}
use Rattle.codes.specs.Kinds.{kind_of}
use Rattle.fetch.specs.declared.Origin.{Origin}
use Rattle.fetch.specs.declared.Origin.TheVariants.{Rom}
use Rattle.fetch.specs.Fetch.{code_at}
use Rattle.step.specs.Told.{stop_at}
use Rattle.steps.specs.Steps.{Ending, done, stop, Run, steps_over, step_by}
use Rattle.steps.specs.Untold.{untold_by}
use Rattle.invariant.specs.Sound.{Bytes}

-- the three numbers of an undefined code become 9
abbrev pub nine : ℕ → ℕ
nine k = cond (eqb k register_stop) code_stop (cond (eqb k bank_stop) code_stop k)

abbrev pub nine_ending : Ending → Ending
nine_ending done = done
nine_ending (stop k p) = stop (nine k) p

abbrev pub nine_run : Run → Run
nine_run r = record { state = r.state; log = r.log; end = r.end; steps = r.steps; ending = nine_ending r.ending }

pub record UnderNine : Type 0 where
  pub same : (origin : Origin) (code t : List ℕ) (n : ℕ) (m : Machine) (g : List ℕ) (e : ℕ) →
      steps_over (untold_by origin code t) n m g e ≡ nine_run (steps_over (step_by origin code t) n m g e)
  pub told : (origin : Origin) (code t : List ℕ) (n : ℕ) (m : Machine) (g : List ℕ) (e k p : ℕ) →
      (steps_over (step_by origin code t) n m g e).ending ≡ stop k p → nine k ≡ code_stop → k ≡ stop_at (code_at origin code p)

-- a run on a ROM of bytes stops with one of these numbers only at an undefined code
pub record OnlyUndefined : Type 0 where
  pub undefined : (rom t : List ℕ) (n : ℕ) (m : Machine) (g : List ℕ) (e k p : ℕ) → Bytes rom →
      (steps_over (step_by Rom rom t) n m g e).ending ≡ stop k p → nine k ≡ code_stop → kind_of (code_at Rom rom p).b0 (code_at Rom rom p).b1 ≡ Defined → ⊥
