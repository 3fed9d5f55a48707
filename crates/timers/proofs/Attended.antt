-- THE WATCHDOG'S PROMISE: a program that never clears its count is reset with the eighth overflow; one that clears it in time never is.
-- Assumes nothing.
use Prim.Native.Nat.{ℕ, ◌+◌, ◌-◌, ◌*◌, ◌/◌, ◌^◌, ◌≤◌, ◌<◌}
use native.Mathlib.Omega.{arith}
use native.Mathlib.Nat.{zero-add, div-add-mod', div-eq_of_lt, mod-lt}
use mathlib.Core.Path.{◌≡◌, ◌∙◌, refl, sym, ap, subst}
use mathlib.Core.Bool.{Bool, true, false, cond, not, ◌&&◌}
use mathlib.Core.List.{List, [], ◌∷◌}
use lib.Dec.{ltb, leb}
use borrow.Author.Tests.{ltb-true, ltb-false, leb-true, lt-leb}
use Rattle.timers.specs.declared.Timers.{Timers}
use Rattle.timers.specs.declared.Passed.{Passed}
use Rattle.timers.specs.declared.Passed.TheVariants.{On, Reset}
use Rattle.timers.specs.Taps.{tap_of}
use Rattle.timers.specs.Clock.{watchdog_counts, and_then, clocks_of, Ranged}
use Rattle.timers.specs.Clears.{uncounted, cleared_of}
use Rattle.timers.specs.Intervals.{interval_of, runs_on, Starting}
use Rattle.timers.specs.Programs.{Turn, played_of, clocks_in, unattended, attended}
use Rattle.timers.specs.Closed.{ticks, total_of, state_of, bitten_of, bite_at}
use Rattle.timers.proofs.Ticks.{power, before_reach}
use Rattle.timers.proofs.States.{state_zero}
use Rattle.timers.proofs.Laws.{clocks_add, clocks_on, clocks_reset, clocks_ranged, from_bite, InRange}
use Rattle.timers.proofs.Held.{cleared_ranged}
use Rattle.timers.proofs.Intervals.{resets}

-- turns that clear nothing are as many clocks
then_same : (p : Passed) (f g : Timers → Passed) → ((t : Timers) → f t ≡ g t) → and_then p f ≡ and_then p g
then_same (On t) f g e = e t
then_same (Reset t) f g e = refl

first_of : (a b : Bool) → not a && b ≡ true → (a ≡ false) × (b ≡ true)
first_of true true h = (sym h, refl)
first_of true false h = (sym h, h)
first_of false b h = (refl, h)

uncleared : (b : Bool) (t : Timers) → b ≡ false → cleared_of false b t ≡ t
unfolding cleared_of
uncleared b t e = ap (λ (c : Bool). cleared_of false c t) e

pub played_clocks : (xs : List Turn) (t : Timers) → unattended xs ≡ true → played_of xs t ≡ clocks_of (clocks_in xs) t
unfolding played_of clocks_in unattended clocks_of
played_clocks [] t h = refl
played_clocks (x ∷ xs) t h =
    let q = first_of x.clears (unattended xs) h in
    ap (λ (s : Timers). and_then (clocks_of x.clocks s) (played_of xs)) (uncleared x.clears t q.0) ∙
    then_same (clocks_of x.clocks t) (played_of xs) (clocks_of (clocks_in xs)) (λ s. played_clocks xs s q.1) ∙
    sym (clocks_add x.clocks (clocks_in xs) t)

-- NEVER CLEARED: the program runs on exactly where its clocks are fewer than eight intervals
pub unattended_runs : (xs : List Turn) (t : Timers) → unattended xs ≡ true → Starting t → t.count ≡ 0 → t.watched ≡ true →
    runs_on (played_of xs t) ≡ ltb (clocks_in xs) (watchdog_counts * interval_of t)
unattended_runs xs t h s c w = ap runs_on (played_clocks xs t h) ∙ by (ltb (clocks_in xs) (watchdog_counts * interval_of t)) refl
  where
    by : (b : Bool) → ltb (clocks_in xs) (watchdog_counts * interval_of t) ≡ b → runs_on (clocks_of (clocks_in xs) t) ≡ b
    by true e = (resets t s c w).not_before (clocks_in xs) (ltb-true (clocks_in xs) (watchdog_counts * interval_of t) e)
    by false e = (resets t s c w).then (clocks_in xs) (ltb-false (clocks_in xs) (watchdog_counts * interval_of t) e)

-- seven intervals hold seven overflows at most, wherever BCNT and the phase stand
few_ticks : (k p n : ℕ) → n ≤ 7 * (256 * 2 ^ k) → ticks k p n ≤ 1792
few_ticks k p n h =
    let a = div-add-mod' p (2 ^ k) in
    let b = mod-lt p (power k) in
    omega (arith, before_reach k p 1793 n (omega arith))

safe : (w : Bool) (c : ℕ) → c < 2048 → w && leb 8 (0 + c / 256) ≡ false
safe true c h = lt-leb 8 (0 + c / 256) (omega arith)
safe false c h = refl

pub seven_safe : (n : ℕ) (t : Timers) → Ranged t → t.count ≡ 0 → n ≤ 7 * interval_of t → bitten_of n t ≡ false
unfolding bitten_of total_of
seven_safe n t r c h =
    let z = few_ticks (tap_of t.bmod) t.phase n h in
    let y = r.bcnt in
    ap (λ (m : ℕ). t.watched && leb 8 (m + total_of n t / 256)) c ∙ safe t.watched (total_of n t) (omega arith)

-- the eighth overflow, where the first comes with the first clock
late : (t : Timers) → t.bcnt ≡ 255 → t.phase ≡ 2 ^ tap_of t.bmod - 1 → t.count ≡ 0 → bite_at t ≤ 7 * interval_of t + 1
unfolding bite_at
late t eb ep ec =
    let k = tap_of t.bmod in
    let o = power k in
    let d : t.phase / 2 ^ k ≡ 0 = div-eq_of_lt (omega arith) in
    let y : 256 * (8 - t.count) - t.bcnt ≡ 1793 = omega arith in
    rw (d, y) (omega arith)

both : (a b : Bool) → a && b ≡ true → (a ≡ true) × (b ≡ true)
both true b h = (refl, h)
both false true h = (h, refl)
both false false h = (h, h)

-- r clocks have passed since u, where the count was 0, and they are seven intervals at most
module _ (u : Timers) (g : Ranged u) (z : u.count ≡ 0) where
  on : (r : ℕ) → r ≤ 7 * interval_of u → clocks_of r u ≡ On (state_of r u)
  on r h = clocks_on r u g (seven_safe r u g z h)

  on_ranged : (r : ℕ) → r ≤ 7 * interval_of u → Ranged (state_of r u)
  on_ranged r h = subst InRange (on r h) (clocks_ranged r u g)

  on_more : (r n : ℕ) → r ≤ 7 * interval_of u → r + n ≤ 7 * interval_of u → clocks_of n (state_of r u) ≡ On (state_of (r + n) u)
  on_more r n l h = ap (λ (p : Passed). and_then p (clocks_of n)) (sym (on r l)) ∙ sym (clocks_add r n u) ∙ on (r + n) h

  on_anew : (n : ℕ) → 0 + n ≤ 7 * interval_of u → clocks_of n u ≡ On (state_of (0 + n) u)
  on_anew n h = on n (omega arith) ∙ ap (λ (m : ℕ). On (state_of m u)) (sym (zero-add n))

-- the induction's two cases: a turn that clears starts the count anew
abbrev Runs : List Turn → Type 0
Runs xs = (u : Timers) (r b : ℕ) → Ranged u → u.count ≡ 0 → b ≡ 7 * interval_of u → r ≤ b → attended b r xs ≡ true → runs_on (played_of xs (state_of r u)) ≡ true

module _ (xs : List Turn) (rest : Runs xs) (u : Timers) (r n b : ℕ) (g : Ranged u) (z : u.count ≡ 0) (e : b ≡ 7 * interval_of u) (l : r ≤ b) where
  turn : (c : Bool) → leb (cond c 0 r + n) b && attended b (cond c 0 r + n) xs ≡ true → runs_on (and_then (clocks_of n (cleared_of false c (state_of r u))) (played_of xs)) ≡ true
  unfolding cleared_of state_of
  turn true k =
      let v = uncounted (state_of r u) in
      let f = cleared_ranged false true (state_of r u) (on_ranged u g z r (omega arith)) in
      let q = both (leb (0 + n) b) (attended b (0 + n) xs) k in
      let m = leb-true (0 + n) b q.0 in
      ap (λ (p : Passed). runs_on (and_then p (played_of xs))) (on_anew v f refl n (omega arith)) ∙ rest v (0 + n) b f refl e m q.1
  turn false k =
      let q = both (leb (r + n) b) (attended b (r + n) xs) k in
      let m = leb-true (r + n) b q.0 in
      ap (λ (p : Passed). runs_on (and_then p (played_of xs))) (on_more u g z r n (omega arith) (omega arith)) ∙ rest u (r + n) b g z e m q.1

runs : (xs : List Turn) → Runs xs
unfolding played_of attended
runs [] u r b g z e l h = refl
runs (x ∷ xs) u r b g z e l h = turn xs (runs xs) u r x.clocks b g z e l x.clears h

-- CLEARED IN TIME: where at most seven intervals pass from clear to clear, the program is never reset
pub attended_runs : (xs : List Turn) (t : Timers) → Ranged t → t.count ≡ 0 → attended (7 * interval_of t) 0 xs ≡ true → runs_on (played_of xs t) ≡ true
attended_runs xs t g z h = ap (λ (s : Timers). runs_on (played_of xs s)) (sym (state_zero t g)) ∙ runs xs t 0 (7 * interval_of t) g z refl (omega arith) h

-- no more than seven: a clock later the watchdog can reset the chip, where BCNT was about to overflow when its count was cleared
pub seven_exact : (t : Timers) → Ranged t → t.bcnt ≡ 255 → t.phase ≡ 2 ^ tap_of t.bmod - 1 → t.count ≡ 0 → t.watched ≡ true → runs_on (clocks_of (7 * interval_of t + 1) t) ≡ false
seven_exact t r eb ep ec w = ap runs_on (clocks_reset t r (7 * interval_of t + 1) (from_bite t r (7 * interval_of t + 1) w (late t eb ep ec)))
