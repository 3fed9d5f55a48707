-- How a run went, and how the machine goes on over more steps. For any step.
-- Assumes nothing.
use Prim.Native.Nat.{ℕ, zero, suc, ◌+◌, ◌-◌, ◌<◌}
use native.Mathlib.Omega.{arith}
use native.Mathlib.Nat.{zero-add, add-zero, suc-add, add-suc}
use mathlib.Core.Path.{◌≡◌, ◌∙◌, refl, sym, ap, subst}
use mathlib.Core.List.{List}
use lib.ListN.{length}
use Rattle.chip.specs.declared.Machine.{Machine}
use Rattle.portlog.specs.Log.{written}
use Rattle.step.specs.Step.{Out, moved, stopped}
use Rattle.steps.specs.Steps.{Run, Ending, done, stop, steps_from}
use Rattle.steps.proofs.Steps.{steps_moved, steps_stopped}

-- a run after j steps more
abbrev pub plus : ℕ → Run → Run
plus j r = record { state = r.state; log = r.log; end = r.end; steps = j + r.steps; ending = r.ending }

module _ (f : Machine → ℕ → Out) where
  -- the steps made before count on
  shift_by : (n : ℕ) (m : Machine) (l : List ℕ) (e j k : ℕ) (o : Out) → f m (length l - e) ≡ o →
      ((m : Machine) (l : List ℕ) (e k : ℕ) → steps_from f n m l e (j + k) ≡ plus j (steps_from f n m l e k)) →
      steps_from f (suc n) m l e (j + k) ≡ plus j (steps_from f (suc n) m l e k)
  shift_by n m l e j k (moved t w) q ih =
      steps_moved f n m t l w e (j + k) q ∙
      ap (steps_from f n t (written l e w) (e + length w)) (sym (add-suc j k)) ∙
      ih t (written l e w) (e + length w) (suc k) ∙
      ap (plus j) (sym (steps_moved f n m t l w e k q))
  shift_by n m l e j k (stopped c p) q ih =
      steps_stopped f n m l e (j + k) c p q ∙ ap (plus j) (sym (steps_stopped f n m l e k c p q))

  pub shift : (n : ℕ) (m : Machine) (l : List ℕ) (e j k : ℕ) → steps_from f n m l e (j + k) ≡ plus j (steps_from f n m l e k)
  unfolding steps_from
  shift zero m l e j k = refl
  shift (suc n) m l e j k = shift_by n m l e j k (f m (length l - e)) refl (λ m l e k. shift n m l e j k)

  -- how a run r of n steps from m, l, e with k steps made went, by how it ends. Done: it made all n, and over b more the machine goes on from
  -- what it left. A stop: it made fewer, the machine stops there over b more too, and a step from there stops again.
  abbrev pub Went : Ending → Run → ℕ → ℕ → Machine → List ℕ → ℕ → ℕ → Type 0
  Went done r n b m l e k =
      (r.steps ≡ k + n) × (steps_from f (n + b) m l e k ≡ steps_from f b r.state r.log r.end r.steps)
  Went (stop c p) r n b m l e k =
      (r.steps < k + n) × (steps_from f (n + b) m l e k ≡ r) × (f r.state (length r.log - r.end) ≡ stopped c p)

  went_more : (q : Ending) (r : Run) (n b : ℕ) (m t : Machine) (l w : List ℕ) (e k : ℕ) → f m (length l - e) ≡ moved t w →
      Went q r n b t (written l e w) (e + length w) (suc k) → Went q r (suc n) b m l e k
  went_more done r n b m t l w e k q h =
      let g = h.0 in
      (omega arith, ap (λ (j : ℕ). steps_from f j m l e k) (suc-add n b) ∙ steps_moved f (n + b) m t l w e k q ∙ h.1)
  went_more (stop c p) r n b m t l w e k q h =
      let g = h.0 in
      (omega arith, ap (λ (j : ℕ). steps_from f j m l e k) (suc-add n b) ∙ steps_moved f (n + b) m t l w e k q ∙ h.1, h.2)

  went_by : (n b : ℕ) (m : Machine) (l : List ℕ) (e k : ℕ) (o : Out) → f m (length l - e) ≡ o →
      ((t : Machine) (l : List ℕ) (e k : ℕ) → Went (steps_from f n t l e k).ending (steps_from f n t l e k) n b t l e k) →
      Went (steps_from f (suc n) m l e k).ending (steps_from f (suc n) m l e k) (suc n) b m l e k
  went_by n b m l e k (moved t w) q ih =
      let r = steps_from f n t (written l e w) (e + length w) (suc k) in
      subst (λ (r : Run). Went r.ending r (suc n) b m l e k) (sym (steps_moved f n m t l w e k q))
      (went_more r.ending r n b m t l w e k q (ih t (written l e w) (e + length w) (suc k)))
  went_by n b m l e k (stopped c p) q ih =
      subst (λ (r : Run). Went r.ending r (suc n) b m l e k) (sym (steps_stopped f n m l e k c p q))
      (omega arith, ap (λ (j : ℕ). steps_from f j m l e k) (suc-add n b) ∙ steps_stopped f (n + b) m l e k c p q, q)

  pub went : (n b : ℕ) (m : Machine) (l : List ℕ) (e k : ℕ) →
      Went (steps_from f n m l e k).ending (steps_from f n m l e k) n b m l e k
  unfolding steps_from
  went zero b m l e k = (sym (add-zero k), ap (λ (j : ℕ). steps_from f j m l e k) (zero-add b))
  went (suc n) b m l e k = went_by n b m l e k (f m (length l - e)) refl (λ t l e k. went n b t l e k)
