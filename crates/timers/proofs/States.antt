-- The closed form follows the clock: n clocks and one more.
-- Assumes nothing.
use Prim.Native.Nat.{ℕ, suc, ◌+◌, ◌%◌, ◌≤◌}
use native.Mathlib.Omega.{arith}
use mathlib.Core.Path.{◌≡◌, refl}
use mathlib.Core.Bool.{Bool, true, false, cond}
use borrow.Author.Tests.{lt-ltb}
use Rattle.timers.specs.declared.Timers.{Timers}
use Rattle.timers.specs.Taps.{tap_of}
use Rattle.timers.specs.Clock.{counts, bites, clocked, Ranged}
use Rattle.timers.specs.Closed.{ticks, irqb_after, count_after, total_of, state_of, bitten_of}
use Rattle.timers.proofs.Ticks.{tick, no_tick}
use Rattle.timers.proofs.Basic.{bcnt_step, irqb_step, count_step, bite_step, fewer}
use Rattle.timers.proofs.Rows.{tap_whole}

total_by : (b : Bool) (a x y : ℕ) → y ≡ cond b (suc x) x → a + y ≡ cond b (suc (a + x)) (a + x)
total_by true a x y h = omega arith
total_by false a x y h = omega arith

rises_by : (b : Bool) (x y : ℕ) → y ≡ cond b (suc x) x → x ≤ y
rises_by true x y h = omega arith
rises_by false x y h = omega arith

module _ (n : ℕ) (t : Timers) where
  pub total_step : total_of (suc n) t ≡ cond (counts (state_of n t)) (suc (total_of n t)) (total_of n t)
  unfolding total_of state_of
  total_step =
      let k = tap_of t.bmod in
      total_by (counts (state_of n t)) t.bcnt (ticks k t.phase n) (ticks k t.phase (suc n)) (tick k (tap_whole t.bmod) t.phase n)

  phase_step : (p : ℕ) → (p + suc n) % 4096 ≡ ((p + n) % 4096 + 1) % 4096
  phase_step p = omega arith

  pub state_step : state_of (suc n) t ≡ clocked (state_of n t)
  unfolding state_of clocked
  state_step =
      let c = total_of n t in
      let b = counts (state_of n t) in
      λ i. record {
        bmod = t.bmod;
        bcnt = bcnt_step b c (total_of (suc n) t) total_step i;
        watched = t.watched;
        irqb = irqb_step b t.irqb c (total_of (suc n) t) total_step i;
        phase = phase_step t.phase i;
        count = count_step b t.watched t.count c (total_of (suc n) t) total_step i;
      }

  -- the watchdog bites with clock n + 1 exactly where n + 1 clocks bring its count to 8 and n did not
  pub bites_step : bitten_of n t ≡ false → bites (state_of n t) ≡ bitten_of (suc n) t
  unfolding state_of bitten_of
  bites_step h = bite_step (counts (state_of n t)) t.watched t.count (total_of n t) (total_of (suc n) t) total_step h

  pub not_sooner : bitten_of (suc n) t ≡ false → bitten_of n t ≡ false
  unfolding bitten_of
  not_sooner h = fewer t.watched t.count (total_of n t) (total_of (suc n) t) (rises_by (counts (state_of n t)) (total_of n t) (total_of (suc n) t) total_step) h

-- no clock, no change
module _ (t : Timers) (r : Ranged t) where
  pub total_zero : total_of 0 t ≡ t.bcnt
  unfolding total_of
  total_zero = omega (arith, no_tick (tap_of t.bmod) t.phase)

  watched_zero : (w : Bool) → count_after w t.count (total_of 0 t) ≡ t.count
  watched_zero true = let a = r.count in let b = r.bcnt in rw total_zero (omega arith)
  watched_zero false = refl

  pub state_zero : state_of 0 t ≡ t
  unfolding state_of
  state_zero =
      let p : (t.phase + 0) % 4096 ≡ t.phase = let z = r.phase in omega arith in
      let bc : total_of 0 t % 256 ≡ t.bcnt = let z = r.bcnt in rw total_zero (omega arith) in
      let ib : irqb_after t.irqb (total_of 0 t) ≡ t.irqb = rw (total_zero, lt-ltb t.bcnt 256 r.bcnt) in
      λ i. record {
        bmod = t.bmod;
        bcnt = bc i;
        watched = t.watched;
        irqb = ib i;
        phase = p i;
        count = watched_zero t.watched i;
      }
