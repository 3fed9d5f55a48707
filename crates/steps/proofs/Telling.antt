-- The steps of the machine are those with 9 at every undefined code, with a stop told by the code at its address.
-- Assumes nothing.
use Prim.Native.Nat.{ℕ, zero, suc, ◌+◌, ◌-◌}
use mathlib.Core.Path.{◌≡◌, refl, ap, sym, ◌∙◌}
use mathlib.Core.List.{List}
use lib.ListN.{length}
use Rattle.chip.specs.declared.Machine.{Machine}
use Rattle.fetch.specs.declared.Code.{Code}
use Rattle.fetch.specs.declared.Origin.{Origin}
use Rattle.fetch.specs.Fetch.{code_at}
use Rattle.portlog.specs.Log.{written}
use Rattle.step.specs.Step.{Out, moved, stopped, told_of, step_of}
use Rattle.steps.specs.Steps.{steps_from, step_by}
use Rattle.steps.specs.Untold.{untold_by, told_run}
use Rattle.steps.proofs.Steps.{steps_moved, steps_stopped}

module _ (src : ℕ → Code) (f : Machine → ℕ → Out) where
  abbrev telling : Machine → ℕ → Out
  telling m room = told_of src (f m room)

  abbrev Told : ℕ → Type 0
  Told n = (m : Machine) (l : List ℕ) (e k : ℕ) → steps_from telling n m l e k ≡ told_run src (steps_from f n m l e k)

  told_by : (n : ℕ) (m : Machine) (l : List ℕ) (e k : ℕ) (o : Out) → f m (length l - e) ≡ o → Told n →
      steps_from telling (suc n) m l e k ≡ told_run src (steps_from f (suc n) m l e k)
  told_by n m l e k (moved t w) q further =
      steps_moved telling n m t l w e k (ap (told_of src) q) ∙ further t (written l e w) (e + length w) (suc k) ∙
      ap (told_run src) (sym (steps_moved f n m t l w e k q))
  told_by n m l e k (stopped c p) q further =
      steps_stopped telling n m l e k _ p (ap (told_of src) q) ∙ ap (told_run src) (sym (steps_stopped f n m l e k c p q))

  told_from : (n : ℕ) → Told n
  unfolding steps_from
  told_from zero m l e k = refl
  told_from (suc n) m l e k = told_by n m l e k (f m (length l - e)) refl (told_from n)

pub told_steps : (origin : Origin) (code t : List ℕ) (n : ℕ) (m : Machine) (l : List ℕ) (e k : ℕ) →
    steps_from (step_by origin code t) n m l e k ≡ told_run (code_at origin code) (steps_from (untold_by origin code t) n m l e k)
unfolding step_of
told_steps origin code t n m l e k = told_from (code_at origin code) (untold_by origin code t) n m l e k
