-- The driven values as one number: what stands in it, and that the log is told by it.
-- Assumes nothing.
use Prim.Native.Nat.{ℕ, ◌+◌, ◌<◌}
use native.Mathlib.Omega.{arith}
use mathlib.Core.Path.{◌≡◌, ◌∙◌, sym, ap}
use mathlib.Core.List.{List, []}
use lib.Bits.{and_le_l}
use lib.Dec.{eqb}
use mathlib.Core.Bool.{cond}
use Rattle.chip.specs.State.{nib_at, slot_of}
use Rattle.chip.specs.Ports.{pins_of, outputs_of, latched_of}
use Rattle.portlog.specs.Log.{log_record, change_of, changes_of, logged, drives_of}
use Rattle.portlog.proofs.Laws.{same_logged}

-- a driven value is a nibble
pub latched_small : (l : List ℕ) (p : ℕ) → latched_of l p < 16
unfolding latched_of
latched_small l p = omega (arith, and_le_l (nib_at l (slot_of 0xFF0 + p)) (outputs_of l p))

abbrev Small : (ℕ → ℕ) → Type 0
Small f = (p : ℕ) → f p < 16

-- each port's nibble stands in the number
module _ (f : ℕ → ℕ) (h : Small f) where
  in_0 : pins_of (drives_of f) 0 ≡ f 0
  unfolding drives_of
  in_0 = omega (arith, h 0, h 3, h 4, h 5, h 6)

  in_3 : pins_of (drives_of f) 3 ≡ f 3
  unfolding drives_of
  in_3 = omega (arith, h 0, h 3, h 4, h 5, h 6)

  in_4 : pins_of (drives_of f) 4 ≡ f 4
  unfolding drives_of
  in_4 = omega (arith, h 0, h 3, h 4, h 5, h 6)

  in_5 : pins_of (drives_of f) 5 ≡ f 5
  unfolding drives_of
  in_5 = omega (arith, h 0, h 3, h 4, h 5, h 6)

  in_6 : pins_of (drives_of f) 6 ≡ f 6
  unfolding drives_of
  in_6 = omega (arith, h 0, h 3, h 4, h 5, h 6)

-- the log by the numbers is the log by the values
module _ (clock : ℕ) (was is : ℕ → ℕ) (h : Small was) (k : Small is) where
  change_told : (p : ℕ) → pins_of (drives_of was) p ≡ was p → pins_of (drives_of is) p ≡ is p →
      change_of clock (pins_of (drives_of was)) (pins_of (drives_of is)) p ≡ change_of clock was is p
  unfolding change_of
  change_told p x y =
      ap (λ (v : ℕ). cond (eqb v (pins_of (drives_of is) p)) [] (log_record clock p (pins_of (drives_of is) p))) x ∙
      ap (λ (v : ℕ). cond (eqb (was p) v) [] (log_record clock p v)) y

  pub drives_told : logged clock (pins_of (drives_of was)) (pins_of (drives_of is)) ≡ logged clock was is
  unfolding logged changes_of
  drives_told =
      simp (change_told 0 (in_0 was h) (in_0 is k), change_told 3 (in_3 was h) (in_3 is k), change_told 4 (in_4 was h) (in_4 is k), change_told 5 (in_5 was h) (in_5 is k), change_told 6 (in_6 was h) (in_6 is k))

-- the same of the ports of nibbles l and k, by their numbers
module _ (clock : ℕ) (l k : List ℕ) (was is : ℕ) (x : was ≡ drives_of (latched_of l)) (y : is ≡ drives_of (latched_of k)) where
  pub log_told : logged clock (pins_of was) (pins_of is) ≡ logged clock (latched_of l) (latched_of k)
  log_told =
      ap (λ (n : ℕ). logged clock (pins_of n) (pins_of is)) x ∙
      ap (λ (n : ℕ). logged clock (pins_of (drives_of (latched_of l))) (pins_of n)) y ∙
      drives_told clock (latched_of l) (latched_of k) (latched_small l) (latched_small k)

  -- where the numbers are the same, nothing is logged
  pub none_told : was ≡ is → logged clock (latched_of l) (latched_of k) ≡ []
  none_told h = sym log_told ∙ ap (λ (n : ℕ). logged clock (pins_of n) (pins_of is)) h ∙ same_logged clock (pins_of is)
