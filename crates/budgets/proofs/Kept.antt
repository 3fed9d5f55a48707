-- What a run keeps, where every step keeps it: the machine stays good, and the end stays within the log. And a stop has a number that a step's
-- stop has. For any step.
-- Assumes nothing.
use Prim.Native.Nat.{ℕ, zero, suc, ◌+◌, ◌-◌, ◌≤◌}
use native.Mathlib.Omega.{arith}
use mathlib.Core.Path.{◌≡◌, refl, sym, subst, subst⁻¹}
use mathlib.Core.List.{List}
use lib.ListN.{length}
use Rattle.chip.specs.declared.Machine.{Machine}
use Rattle.portlog.specs.Log.{written}
use Rattle.portlog.proofs.Laws.{length_written_at}
use Rattle.step.specs.Step.{Out, moved, stopped}
use Rattle.steps.specs.Steps.{Run, done, stop, steps_from}
use Rattle.steps.proofs.Steps.{steps_moved, steps_stopped}

pub no_done : (k p : ℕ) → stop k p ≡ done → ⊥
no_done k p e = let z : ◌≡◌ {A = ℕ} 0 1 = cc in omega arith

module _ (f : Machine → ℕ → Out) (Good : Machine → Type 0) (Stop : ℕ → Type 0)
    (keeps : (m : Machine) (room : ℕ) (t : Machine) (w : List ℕ) → Good m → f m room ≡ moved t w → Good t × (length w ≤ room))
    (stops : (m : Machine) (room c p : ℕ) → f m room ≡ stopped c p → Stop c) where
  pub record Kept (r : Run) : Type 0 where
    pub good : Good r.state
    pub within : r.end ≤ length r.log
    pub stop_by : (c p : ℕ) → r.ending ≡ stop c p → Stop c

  kept_by : (n : ℕ) (m : Machine) (l : List ℕ) (e k : ℕ) (o : Out) → f m (length l - e) ≡ o → Good m → e ≤ length l →
      ((t : Machine) (l : List ℕ) (e k : ℕ) → Good t → e ≤ length l → Kept (steps_from f n t l e k)) → Kept (steps_from f (suc n) m l e k)
  kept_by n m l e k (moved t w) q g h ih =
      let a = keeps m (length l - e) t w g q in
      let small : length w ≤ length l - e = a.1 in
      let long : length (written l e w) ≡ length l = length_written_at l e w (omega arith) in
      subst⁻¹ Kept (steps_moved f n m t l w e k q) (ih t (written l e w) (e + length w) (suc k) a.0 (omega arith))
  kept_by n m l e k (stopped c p) q g h ih =
      subst⁻¹ Kept (steps_stopped f n m l e k c p q)
      (record { good = g; within = h; stop_by = λ d v x. let y : c ≡ d = cc in subst Stop y (stops m (length l - e) c p q) })

  pub kept : (n : ℕ) (m : Machine) (l : List ℕ) (e k : ℕ) → Good m → e ≤ length l → Kept (steps_from f n m l e k)
  unfolding steps_from
  kept zero m l e k g h = record { good = g; within = h; stop_by = λ c p x. absurd (no_done c p (sym x)) }
  kept (suc n) m l e k g h = kept_by n m l e k (f m (length l - e)) refl g h (λ t l e k. kept n t l e k)
