-- TABLES 11-2 AND 11-3, row by row, and the manual's tip: with which clock IRQB is set, and with which the watchdog resets the chip.
-- Assumes nothing.
use Prim.Native.Nat.{ℕ, zero, suc, ◌+◌, ◌-◌, ◌*◌, ◌%◌, ◌/◌, ◌^◌, ◌≤◌, ◌<◌}
use native.Mathlib.Omega.{arith}
use native.Mathlib.Nat.{mul_assoc, pow-suc, zero-div}
use mathlib.Core.Path.{◌≡◌, ◌∙◌, refl, sym, ap, subst}
use mathlib.Core.Bool.{Bool, true, false}
use lib.Dec.{ltb}
use lib.ListN.{get_or}
use borrow.Author.Tests.{lt-ltb, le-ltb, ltb-true, ltb-false}
use Rattle.timers.specs.declared.Timers.{Timers}
use Rattle.timers.specs.declared.Passed.{Passed}
use Rattle.timers.specs.Taps.{table_11_2, tap_of}
use Rattle.timers.specs.Clock.{watchdog_counts, clocks_of, Ranged}
use Rattle.timers.specs.Clears.{cleared_of}
use Rattle.timers.specs.Intervals.{interval_of, held_in, runs_on, Starting, RequestsAt, ResetsAt}
use Rattle.timers.specs.Closed.{reach, total_of, state_of, quiet_state_of, bitten_of, bite_at, overflow_at}
use Rattle.timers.proofs.Ticks.{from_reach}
use Rattle.timers.proofs.Laws.{clocks_on, clocks_reset, before_bite, from_bite}
use Rattle.timers.proofs.Quiet.{overflow_end, calm_clocks}
use Rattle.timers.proofs.Held.{cleared_ranged}

-- from phase 0
from_zero : (k p y : ℕ) → p ≡ 0 → reach k p y ≡ y * 2 ^ k
from_zero k p y e = ap (λ (x : ℕ). reach k x y) e ∙ from_here
  where
    from_here : reach k 0 y ≡ y * 2 ^ k
    from_here =
        let a : 0 / 2 ^ k ≡ 0 = zero-div (2 ^ k) in
        let b : 0 / 2 ^ k + y ≡ y = omega arith in
        rw b (omega arith)

-- a request that BCNT's total brings
raised : (n : ℕ) (t : Timers) → 256 ≤ total_of n t → (state_of n t).irqb ≡ 1
unfolding state_of
raised n t h = rw (le-ltb (total_of n t) 256 h)

module _ (t : Timers) (s : Starting t) where
  overflow_at_lem : overflow_at t ≡ interval_of t
  unfolding overflow_at
  overflow_at_lem = from_zero (tap_of t.bmod) t.phase (256 - t.bcnt) s.phase ∙ ap (λ (x : ℕ). (256 - x) * 2 ^ tap_of t.bmod) s.bcnt

  total_from : (n : ℕ) → interval_of t ≤ n → 256 ≤ total_of n t
  total_from n h = by (ltb (total_of n t) 256) refl
    where
      by : (b : Bool) → ltb (total_of n t) 256 ≡ b → 256 ≤ total_of n t
      by true e = let z = ltb-true n (overflow_at t) (sym (overflow_end n t s.ranged) ∙ e) in let y = overflow_at_lem in absurd (let u : ⊥ = omega arith in u)
      by false e = ltb-false (total_of n t) 256 e

  -- the overflow that brings a reset sets IRQB too
  total_bitten : 256 ≤ total_of (bite_at t) t
  unfolding total_of bite_at
  total_bitten =
      let k = tap_of t.bmod in
      let y = 256 * (8 - t.count) - t.bcnt in
      let z = from_reach k t.phase y (reach k t.phase y) (omega arith) in
      let c = s.ranged.count in
      omega arith

  set_by : (n : ℕ) (b : Bool) → bitten_of n t ≡ b → interval_of t ≤ n → (held_in (clocks_of n t)).irqb ≡ 1
  set_by n false e h = ap (λ (p : Passed). (held_in p).irqb) (clocks_on n t s.ranged e) ∙ raised n t (total_from n h)
  set_by n true e h = ap (λ (p : Passed). (held_in p).irqb) (clocks_reset t s.ranged n e) ∙ raised (bite_at t) t total_bitten

  unset : (n : ℕ) → t.irqb ≡ 0 → n < interval_of t → (held_in (clocks_of n t)).irqb ≡ 0
  unfolding quiet_state_of
  unset n q h =
      let o = overflow_at_lem in
      let l = ltb-true (total_of n t) 256 (overflow_end n t s.ranged ∙ lt-ltb n (overflow_at t) (omega arith)) in
      ap (λ (p : Passed). (held_in p).irqb) (calm_clocks n t s.ranged l) ∙ q

  -- AN INTERVAL: IRQB is set with its last clock, whatever the watchdog's count
  pub requests : t.irqb ≡ 0 → RequestsAt (interval_of t) t
  requests q = record {
    not_before = λ k h. unset k q h;
    then = set_by (interval_of t) (bitten_of (interval_of t) t) refl (omega arith);
  }

  bite_at_lem : t.count ≡ 0 → bite_at t ≡ watchdog_counts * interval_of t
  unfolding bite_at
  bite_at_lem c =
      from_zero (tap_of t.bmod) t.phase (256 * (8 - t.count) - t.bcnt) s.phase ∙
      ap (λ (x : ℕ). (256 * (8 - x) - t.bcnt) * 2 ^ tap_of t.bmod) c ∙ ap (λ (x : ℕ). (2048 - x) * 2 ^ tap_of t.bmod) s.bcnt ∙
      (let z : 2048 * 2 ^ tap_of t.bmod ≡ watchdog_counts * interval_of t = omega arith in z)

  -- EIGHT INTERVALS: the watchdog resets the chip with the last clock of the eighth
  pub resets : t.count ≡ 0 → t.watched ≡ true → ResetsAt (watchdog_counts * interval_of t) t
  resets c w = record {
    not_before = λ k h. before k (subst (λ (x : ℕ). k < x) (sym (bite_at_lem c)) h);
    then = λ k h. since k (subst (λ (x : ℕ). x ≤ k) (sym (bite_at_lem c)) h);
  }
    where
      before : (k : ℕ) → k < bite_at t → runs_on (clocks_of k t) ≡ true
      before k h = ap runs_on (clocks_on k t s.ranged (before_bite t s.ranged k h))

      since : (k : ℕ) → bite_at t ≤ k → runs_on (clocks_of k t) ≡ false
      since k h = ap runs_on (clocks_reset t s.ranged k (from_bite t s.ranged k w h))

-- a row of Table 11-2: BMOD.2-0 are i
row_interval : (t : Timers) (i : ℕ) → t.bmod % 8 ≡ i → interval_of t ≡ 256 * 2 ^ get_or table_11_2 i 12
unfolding tap_of
row_interval t i e = ap (λ (x : ℕ). 256 * 2 ^ get_or table_11_2 x 12) e

row_requests : (t : Timers) (i : ℕ) → t.bmod % 8 ≡ i → Starting t → t.irqb ≡ 0 → RequestsAt (256 * 2 ^ get_or table_11_2 i 12) t
row_requests t i e s q = subst (λ (n : ℕ). RequestsAt n t) (row_interval t i e) (requests t s q)

row_resets : (t : Timers) (i : ℕ) → t.bmod % 8 ≡ i → Starting t → t.count ≡ 0 → t.watched ≡ true → ResetsAt (8 * (256 * 2 ^ get_or table_11_2 i 12)) t
row_resets t i e s c w = subst (λ (n : ℕ). ResetsAt (8 * n) t) (row_interval t i e) (resets t s c w)

-- Table 11-2, "Interrupt Interval Time"
pub irqb_000 : (t : Timers) → Starting t → t.irqb ≡ 0 → t.bmod % 8 ≡ 0 → RequestsAt (2 ^ 20) t
unfolding table_11_2
irqb_000 t s q e = row_requests t 0 e s q

pub irqb_011 : (t : Timers) → Starting t → t.irqb ≡ 0 → t.bmod % 8 ≡ 3 → RequestsAt (2 ^ 17) t
unfolding table_11_2
irqb_011 t s q e = row_requests t 3 e s q

pub irqb_101 : (t : Timers) → Starting t → t.irqb ≡ 0 → t.bmod % 8 ≡ 5 → RequestsAt (2 ^ 15) t
unfolding table_11_2
irqb_101 t s q e = row_requests t 5 e s q

pub irqb_111 : (t : Timers) → Starting t → t.irqb ≡ 0 → t.bmod % 8 ≡ 7 → RequestsAt (2 ^ 13) t
unfolding table_11_2
irqb_111 t s q e = row_requests t 7 e s q

-- Table 11-3, "Watchdog Timer Interval Time"
pub reset_000 : (t : Timers) → Starting t → t.count ≡ 0 → t.watched ≡ true → t.bmod % 8 ≡ 0 → ResetsAt (2 ^ 23) t
unfolding table_11_2
reset_000 t s c w e = row_resets t 0 e s c w

pub reset_011 : (t : Timers) → Starting t → t.count ≡ 0 → t.watched ≡ true → t.bmod % 8 ≡ 3 → ResetsAt (2 ^ 20) t
unfolding table_11_2
reset_011 t s c w e = row_resets t 3 e s c w

pub reset_101 : (t : Timers) → Starting t → t.count ≡ 0 → t.watched ≡ true → t.bmod % 8 ≡ 5 → ResetsAt (2 ^ 18) t
unfolding table_11_2
reset_101 t s c w e = row_resets t 5 e s c w

pub reset_111 : (t : Timers) → Starting t → t.count ≡ 0 → t.watched ≡ true → t.bmod % 8 ≡ 7 → ResetsAt (2 ^ 16) t
unfolding table_11_2
reset_111 t s c w e = row_resets t 7 e s c w

-- the manual's tip, BMOD 0FH: BCNT and IRQB start at 0, and IRQB is set with clock 8,192
anew : (clear : Bool) (t : Timers) → Ranged t → t.phase ≡ 0 → Starting (cleared_of true clear t)
unfolding cleared_of
anew true t r p = record { ranged = cleared_ranged true true t r; phase = p; bcnt = refl }
anew false t r p = record { ranged = cleared_ranged true false t r; phase = p; bcnt = refl }

anew_irqb : (clear : Bool) (t : Timers) → (cleared_of true clear t).irqb ≡ 0
unfolding cleared_of
anew_irqb true t = refl
anew_irqb false t = refl

anew_bmod : (clear : Bool) (t : Timers) → (cleared_of true clear t).bmod ≡ t.bmod % 8
unfolding cleared_of
anew_bmod true t = refl
anew_bmod false t = refl

pub bmod_0f : (clear : Bool) (t : Timers) → Ranged t → t.phase ≡ 0 → t.bmod ≡ 0x0F → RequestsAt 8192 (cleared_of true clear t)
bmod_0f clear t r p e =
    let b = anew_bmod clear t in
    irqb_111 (cleared_of true clear t) (anew clear t r p) (anew_irqb clear t) (omega arith)

-- intervals as powers of two
power_add : (k j : ℕ) → 2 ^ (k + j) ≡ 2 ^ k * 2 ^ j
power_add k zero =
    let e : k + 0 ≡ k = omega arith in
    let z : 2 ^ (k + 0) ≡ 2 ^ k = ap (λ (x : ℕ). 2 ^ x) e in
    omega arith
power_add k (suc j) =
    let e : k + suc j ≡ suc (k + j) = omega arith in
    ap (λ (x : ℕ). 2 ^ x) e ∙ pow-suc 2 (k + j) ∙ ap (λ (x : ℕ). x * 2) (power_add k j) ∙ mul_assoc (2 ^ k) (2 ^ j) 2 ∙ ap (λ (x : ℕ). 2 ^ k * x) (sym (pow-suc 2 j))

pub interval_power : (t : Timers) → interval_of t ≡ 2 ^ (tap_of t.bmod + 8)
interval_power t = let z = power_add (tap_of t.bmod) 8 in omega arith

pub eight_power : (t : Timers) → watchdog_counts * interval_of t ≡ 2 ^ (tap_of t.bmod + 11)
eight_power t = let z = power_add (tap_of t.bmod) 11 in omega arith
