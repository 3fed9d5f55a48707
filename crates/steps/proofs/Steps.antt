-- The first of more steps: where it moves on the others follow from there, and where it stops none follows. For any step.
-- Assumes nothing.
use Prim.Native.Nat.{ℕ, suc, ◌+◌, ◌-◌}
use mathlib.Core.Path.{◌≡◌, ap}
use mathlib.Core.List.{List}
use lib.ListN.{length}
use Rattle.chip.specs.declared.Machine.{Machine}
use Rattle.portlog.specs.Log.{written}
use Rattle.step.specs.Step.{Out, moved, stopped}
use Rattle.steps.specs.Steps.{Run, stop, steps_from}

module _ (f : Machine → ℕ → Out) where
  pub steps_moved : (n : ℕ) (s t : Machine) (l w : List ℕ) (e k : ℕ) → f s (length l - e) ≡ moved t w → steps_from f (suc n) s l e k ≡ steps_from f n t (written l e w) (e + length w) (suc k)
  unfolding steps_from
  steps_moved n s t l w e k q =
      ap (λ (o : Out). elim o as (λ z. Run) [
        | moved t w ↦ steps_from f n t (written l e w) (e + length w) (suc k)
        | stopped c p ↦ record { state = s; log = l; end = e; steps = k; ending = stop c p }
      ]) q

  pub steps_stopped : (n : ℕ) (s : Machine) (l : List ℕ) (e k c p : ℕ) → f s (length l - e) ≡ stopped c p → steps_from f (suc n) s l e k ≡ record { state = s; log = l; end = e; steps = k; ending = stop c p }
  unfolding steps_from
  steps_stopped n s l e k c p q =
      ap (λ (o : Out). elim o as (λ z. Run) [
        | moved t w ↦ steps_from f n t (written l e w) (e + length w) (suc k)
        | stopped c p ↦ record { state = s; log = l; end = e; steps = k; ending = stop c p }
      ]) q
