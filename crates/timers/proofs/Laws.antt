-- What the emulator cites of `clocks_of`: clocks add up, ranges; and the closed form.
-- Assumes nothing.
use Prim.Native.Nat.{ℕ, zero, suc, ◌+◌, ◌-◌, ◌*◌, ◌%◌, ◌/◌, ◌≤◌, ◌<◌}
use native.Mathlib.Omega.{arith}
use native.Mathlib.Nat.{zero-add, suc-add}
use mathlib.Core.Path.{◌≡◌, ◌∙◌, refl, sym, ap}
use mathlib.Core.Bool.{Bool, true, false, cond, ◌&&◌}
use lib.Dec.{leb}
use borrow.Author.Tests.{le-leb, lt-leb, leb-true, leb-false}
use Rattle.timers.specs.declared.Timers.{Timers}
use Rattle.timers.specs.declared.Passed.{Passed}
use Rattle.timers.specs.declared.Passed.TheVariants.{On, Reset}
use Rattle.timers.specs.Taps.{tap_of}
use Rattle.timers.specs.Clock.{counts, overflows, bites, clocked, clock_of, and_then, clocks_of, Ranged}
use Rattle.timers.specs.Closed.{ticks, total_of, state_of, bitten_of, bite_at}
use Rattle.timers.proofs.Ticks.{before_reach, from_reach, reach_later}
use Rattle.timers.proofs.States.{state_zero, state_step, bites_step, not_sooner}

-- clocks after clocks
then_then : (p : Passed) (f g h : Timers → Passed) → ((t : Timers) → f t ≡ and_then (g t) h) → and_then p f ≡ and_then (and_then p g) h
then_then (On t) f g h e = e t
then_then (Reset t) f g h e = refl

-- a + b clocks are a clocks and then b, unless the chip was reset in the first
pub clocks_add : (a b : ℕ) (t : Timers) → clocks_of (a + b) t ≡ and_then (clocks_of a t) (clocks_of b)
unfolding clocks_of
clocks_add zero b t = ap (λ (n : ℕ). clocks_of n t) (zero-add b)
clocks_add (suc a) b t = ap (λ (n : ℕ). clocks_of n t) (suc-add a b) ∙ then_then (clock_of t) (clocks_of (a + b)) (clocks_of a) (clocks_of b) (clocks_add a b)

-- the last clock by itself
then_on : (p : Passed) → and_then p On ≡ p
then_on (On t) = refl
then_on (Reset t) = refl

pub clocks_last : (n : ℕ) (t : Timers) → clocks_of (suc n) t ≡ and_then (clocks_of n t) clock_of
unfolding clocks_of
clocks_last zero t = then_on (clock_of t)
clocks_last (suc n) t = then_then (clock_of t) (clocks_of (suc n)) (clocks_of n) clock_of (clocks_last n)

one_on : (s : Timers) → bites s ≡ false → clock_of s ≡ On (clocked s)
unfolding clock_of
one_on s h = ap (λ (b : Bool). cond b (Reset (clocked s)) (On (clocked s))) h

one_reset : (s : Timers) → bites s ≡ true → clock_of s ≡ Reset (clocked s)
unfolding clock_of
one_reset s h = ap (λ (b : Bool). cond b (Reset (clocked s)) (On (clocked s))) h

-- the closed form, where the watchdog doesn't bite
pub clocks_on : (n : ℕ) (t : Timers) → Ranged t → bitten_of n t ≡ false → clocks_of n t ≡ On (state_of n t)
unfolding clocks_of
clocks_on zero t r h = ap On (sym (state_zero t r))
clocks_on (suc n) t r h =
    let q = not_sooner n t h in
    clocks_last n t ∙ ap (λ (p : Passed). and_then p clock_of) (clocks_on n t r q) ∙ one_on (state_of n t) (bites_step n t q ∙ h) ∙ ap On (sym (state_step n t))

-- with which clock it bites
module _ (t : Timers) (r : Ranged t) where
  pub bite_later : 0 < bite_at t
  unfolding bite_at
  bite_later = let a = r.count in let b = r.bcnt in reach_later (tap_of t.bmod) t.phase (256 * (8 - t.count) - t.bcnt) (omega arith)

  before_by : (w : Bool) (c : ℕ) → c < 256 * (8 - t.count) → w && leb 8 (t.count + c / 256) ≡ false
  before_by true c h = let a = r.count in lt-leb 8 (t.count + c / 256) (omega arith)
  before_by false c h = refl

  pub before_bite : (n : ℕ) → n < bite_at t → bitten_of n t ≡ false
  unfolding bitten_of total_of bite_at
  before_bite n h =
      let a = before_reach (tap_of t.bmod) t.phase (256 * (8 - t.count) - t.bcnt) n h in
      before_by t.watched (t.bcnt + ticks (tap_of t.bmod) t.phase n) (omega arith)

  from_by : (w : Bool) (c : ℕ) → w ≡ true → 256 * (8 - t.count) ≤ c → w && leb 8 (t.count + c / 256) ≡ true
  from_by true c e h = let a = r.count in le-leb 8 (t.count + c / 256) (omega arith)
  from_by false c e h = e

  pub from_bite : (n : ℕ) → t.watched ≡ true → bite_at t ≤ n → bitten_of n t ≡ true
  unfolding bitten_of total_of bite_at
  from_bite n w h =
      let a = from_reach (tap_of t.bmod) t.phase (256 * (8 - t.count) - t.bcnt) n h in
      from_by t.watched (t.bcnt + ticks (tap_of t.bmod) t.phase n) w (omega arith)

  bitten_watched_by : (w x : Bool) → w && x ≡ true → w ≡ true
  bitten_watched_by true x h = refl
  bitten_watched_by false x h = h

  bitten_watched : (n : ℕ) → bitten_of n t ≡ true → t.watched ≡ true
  unfolding bitten_of
  bitten_watched n h = bitten_watched_by t.watched (leb 8 (t.count + total_of n t / 256)) h

  pub bitten_since : (n : ℕ) → bitten_of n t ≡ true → bite_at t ≤ n
  bitten_since n h = since_by (leb (bite_at t) n) refl
    where
      since_by : (b : Bool) → leb (bite_at t) n ≡ b → bite_at t ≤ n
      since_by true e = leb-true _ _ e
      since_by false e = let z : true ≡ false = sym h ∙ before_bite n (leb-false (bite_at t) n e) in let y : ◌≡◌ {A = ℕ} 0 1 = cc in absurd (let u : ⊥ = omega arith in u)

  reset_by : (b m : ℕ) → b ≡ bite_at t → t.watched ≡ true → clocks_of (b + m) t ≡ Reset (state_of b t)
  reset_by zero m e w = let z = bite_later in absurd (let y : ⊥ = omega arith in y)
  reset_by (suc j) m e w =
      let q = before_bite j (omega arith) in
      clocks_add (suc j) m t ∙
      ap (λ (p : Passed). and_then p (clocks_of m))
      (clocks_last j t ∙ ap (λ (p : Passed). and_then p clock_of) (clocks_on j t r q) ∙ one_reset (state_of j t) (bites_step j t q ∙ from_bite (suc j) w (omega arith)) ∙ ap Reset (sym (state_step j t)))

  -- the closed form, where it does: the clocks after the bite are dropped
  pub clocks_reset : (n : ℕ) → bitten_of n t ≡ true → clocks_of n t ≡ Reset (state_of (bite_at t) t)
  clocks_reset n h =
      let l = bitten_since n h in
      let e : n ≡ bite_at t + (n - bite_at t) = omega arith in
      ap (λ (m : ℕ). clocks_of m t) e ∙ reset_by (bite_at t) (n - bite_at t) refl (bitten_watched n h)

-- the ranges are kept
either : (b : Bool) (x y m : ℕ) → x < m → y < m → cond b x y < m
either true x y m h g = h
either false x y m h g = g

pub clocked_ranged : (t : Timers) → Ranged t → Ranged (clocked t)
unfolding clocked
clocked_ranged t r = record {
  bmod = r.bmod;
  bcnt = either (counts t) ((t.bcnt + 1) % 256) t.bcnt 256 (omega arith) r.bcnt;
  irqb = either (overflows t) 1 t.irqb 2 (omega arith) r.irqb;
  phase = omega arith;
  count = either (overflows t && t.watched) ((t.count + 1) % 8) t.count 8 (omega arith) r.count;
}

abbrev pub InRange : Passed → Type 0
InRange (On t) = Ranged t
InRange (Reset t) = Ranged t

range_by : (b : Bool) (s : Timers) → Ranged s → InRange (cond b (Reset s) (On s))
range_by true s r = r
range_by false s r = r

range_then : (p : Passed) (f : Timers → Passed) → InRange p → ((t : Timers) → Ranged t → InRange (f t)) → InRange (and_then p f)
range_then (On t) f h k = k t h
range_then (Reset t) f h k = h

pub clocks_ranged : (n : ℕ) (t : Timers) → Ranged t → InRange (clocks_of n t)
unfolding clocks_of clock_of
clocks_ranged zero t r = r
clocks_ranged (suc n) t r = range_then (clock_of t) (clocks_of n) (range_by (bites t) (clocked t) (clocked_ranged t r)) (clocks_ranged n)
