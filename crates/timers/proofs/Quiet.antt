-- Clocks with no overflow of BCNT: how many they are, what they move, and that their parts are such clocks too.
-- Assumes nothing.
use Prim.Native.Nat.{ℕ, zero, suc, ◌+◌, ◌-◌, ◌*◌, ◌%◌, ◌/◌, ◌≤◌, ◌<◌}
use native.Mathlib.Omega.{arith}
use native.Mathlib.Nat.{zero-add, suc-add, le-div_iff_mul-le, div-lt_iff_lt-mul}
use mathlib.Core.Path.{◌≡◌, ◌∙◌, refl, sym, ap}
use mathlib.Core.Bool.{Bool, true, false, cond, not, ◌&&◌, and_assoc, and-true}
use lib.Dec.{eqb, ltb, leb}
use borrow.Author.Tests.{eqb-true, eqb-false, lt-ltb, le-ltb, lt-leb, leb-true, leb-false, ltb-true, ltb-false}
use Rattle.timers.specs.declared.Timers.{Timers}
use Rattle.timers.specs.declared.Passed.TheVariants.{On}
use Rattle.timers.specs.Taps.{tap_of}
use Rattle.timers.specs.Clock.{counts, overflows, clocked, clocks_of, quiet_of, QuietCycles, Ranged}
use Rattle.timers.specs.Closed.{ticks, reach, irqb_after, count_after, total_of, state_of, bitten_of, overflow_at, quiet_state_of}
use Rattle.timers.proofs.Ticks.{before_reach, from_reach}
use Rattle.timers.proofs.States.{total_step, state_step, state_zero, total_zero}
use Rattle.timers.proofs.Laws.{clocks_on}

-- the clocks one by one, resets left out
iter : ℕ → Timers → Timers
iter zero t = t
iter (suc n) t = iter n (clocked t)

iter_last : (n : ℕ) (t : Timers) → iter (suc n) t ≡ clocked (iter n t)
unfolding iter
iter_last zero t = refl
iter_last (suc n) t = iter_last n (clocked t)

iter_state : (n : ℕ) (t : Timers) → Ranged t → iter n t ≡ state_of n t
unfolding iter
iter_state zero t r = sym (state_zero t r)
iter_state (suc n) t r = iter_last n t ∙ ap clocked (iter_state n t r) ∙ sym (state_step n t)

-- the last of some quiet clocks
quiet_iter : (n : ℕ) (t : Timers) → quiet_of (suc n) t ≡ quiet_of n t && not (overflows (iter n t))
unfolding quiet_of iter
quiet_iter zero t = and-true (not (overflows t))
quiet_iter (suc n) t = ap (λ (b : Bool). not (overflows t) && b) (quiet_iter n (clocked t)) ∙ sym (and_assoc (not (overflows t)) (quiet_of n (clocked t)) (not (overflows (iter n (clocked t)))))

quiet_last : (n : ℕ) (t : Timers) → Ranged t → quiet_of (suc n) t ≡ quiet_of n t && not (overflows (state_of n t))
quiet_last n t r = quiet_iter n t ∙ ap (λ (s : Timers). quiet_of n t && not (overflows s)) (iter_state n t r)

-- BCNT stays below 256
small_by : (c : ℕ) (l f : Bool) → ltb c 256 ≡ l → eqb (c % 256) 255 ≡ f → ltb (suc c) 256 ≡ l && not f
small_by c true true h g = let z = eqb-true (c % 256) 255 g in le-ltb (suc c) 256 (omega arith)
small_by c true false h g =
    let z = eqb-false (c % 256) 255 g in
    let y = ltb-true c 256 h in
    lt-ltb (suc c) 256 (omega arith)
small_by c false f h g = let y = ltb-false c 256 h in le-ltb (suc c) 256 (omega arith)

small_step : (b : Bool) (c x : ℕ) → x ≡ cond b (suc c) c → ltb x 256 ≡ ltb c 256 && not (b && eqb (c % 256) 255)
small_step true c x e = ap (λ (y : ℕ). ltb y 256) e ∙ small_by c (ltb c 256) (eqb (c % 256) 255) refl refl
small_step false c x e = ap (λ (y : ℕ). ltb y 256) e ∙ sym (and-true (ltb c 256))

calm_step : (n : ℕ) (t : Timers) → ltb (total_of (suc n) t) 256 ≡ ltb (total_of n t) 256 && not (overflows (state_of n t))
unfolding state_of
calm_step n t = small_step (counts (state_of n t)) (total_of n t) (total_of (suc n) t) (total_step n t)

-- n clocks are quiet exactly where BCNT comes to less than 256
pub quiet_calm : (n : ℕ) (t : Timers) → Ranged t → quiet_of n t ≡ ltb (total_of n t) 256
unfolding quiet_of
quiet_calm zero t r = sym (ap (λ (x : ℕ). ltb x 256) (total_zero t r) ∙ lt-ltb t.bcnt 256 r.bcnt)
quiet_calm (suc n) t r = quiet_last n t r ∙ ap (λ (b : Bool). b && not (overflows (state_of n t))) (quiet_calm n t r) ∙ sym (calm_step n t)

-- where that ends
reach_by : (k p y n : ℕ) (b : Bool) → ltb n (reach k p y) ≡ b → ltb (ticks k p n) y ≡ b
reach_by k p y n true h = lt-ltb (ticks k p n) y (before_reach k p y n (ltb-true n (reach k p y) h))
reach_by k p y n false h = le-ltb (ticks k p n) y (from_reach k p y n (ltb-false n (reach k p y) h))

over_by : (x a : ℕ) (b : Bool) → a < 256 → ltb x (256 - a) ≡ b → ltb (a + x) 256 ≡ b
over_by x a true g h = let z = ltb-true x (256 - a) h in lt-ltb (a + x) 256 (omega arith)
over_by x a false g h = let z = ltb-false x (256 - a) h in le-ltb (a + x) 256 (omega arith)

pub overflow_end : (n : ℕ) (t : Timers) → Ranged t → ltb (total_of n t) 256 ≡ ltb n (overflow_at t)
unfolding total_of overflow_at
overflow_end n t r =
    let k = tap_of t.bmod in
    over_by (ticks k t.phase n) t.bcnt (ltb n (reach k t.phase (256 - t.bcnt))) r.bcnt (reach_by k t.phase (256 - t.bcnt) n (ltb n (reach k t.phase (256 - t.bcnt))) refl)

-- n clocks are quiet exactly where n is below `overflow_at`
pub until_law : (n : ℕ) (t : Timers) → Ranged t → quiet_of n t ≡ ltb n (overflow_at t)
until_law n t r = quiet_calm n t r ∙ overflow_end n t r

-- whole cycles before it
pub overflow_later : (t : Timers) → Ranged t → 0 < overflow_at t
unfolding quiet_of
overflow_later t r = ltb-true 0 (overflow_at t) (sym (until_law 0 t r))

cycles_by : (c r u : ℕ) (b : Bool) → leb c ((u - 1) / r) ≡ b → 0 < r → 0 < u → ltb (c * r) u ≡ b
cycles_by c r u true h g l =
    let z = (le-div_iff_mul-le {k = r} {x = c} {y = u - 1} g).0 (leb-true c ((u - 1) / r) h) in
    lt-ltb (c * r) u (omega arith)
cycles_by c r u false h g l =
    let z = (div-lt_iff_lt-mul {k = r} {x = u - 1} {y = c} g).0 (leb-false c ((u - 1) / r) h) in
    le-ltb (c * r) u (omega arith)

pub quiet_cycles_law : (t : Timers) (rate : ℕ) → Ranged t → 0 < rate → QuietCycles ((overflow_at t - 1) / rate) rate t
quiet_cycles_law t rate r h c = until_law (c * rate) t r ∙ cycles_by c rate (overflow_at t) (leb c ((overflow_at t - 1) / rate)) refl h (overflow_later t r)

-- what they come to
kept : (w : Bool) (m c : ℕ) → m < 8 → c < 256 → count_after w m c ≡ m
kept true m c h g = omega arith
kept false m c h g = refl

pub calm_state : (n : ℕ) (t : Timers) → Ranged t → total_of n t < 256 → state_of n t ≡ quiet_state_of n t
unfolding state_of quiet_state_of
calm_state n t r l =
    let bc : total_of n t % 256 ≡ total_of n t = omega arith in
    let ib : irqb_after t.irqb (total_of n t) ≡ t.irqb = rw (lt-ltb (total_of n t) 256 l) in
    λ i. record {
      bmod = t.bmod;
      bcnt = bc i;
      watched = t.watched;
      irqb = ib i;
      phase = (t.phase + n) % 4096;
      count = kept t.watched t.count (total_of n t) r.count l i;
    }

safe : (w : Bool) (m c : ℕ) → m < 8 → c < 256 → w && leb 8 (m + c / 256) ≡ false
safe true m c h g = lt-leb 8 (m + c / 256) (omega arith)
safe false m c h g = refl

pub calm_clocks : (n : ℕ) (t : Timers) → Ranged t → total_of n t < 256 → clocks_of n t ≡ On (quiet_state_of n t)
unfolding bitten_of
calm_clocks n t r a =
    clocks_on n t r (safe t.watched t.count (total_of n t) r.count a) ∙ ap On (calm_state n t r a)

pub quiet_total : (n : ℕ) (t : Timers) → Ranged t → quiet_of n t ≡ true → total_of n t < 256
quiet_total n t r h = ltb-true (total_of n t) 256 (sym (quiet_calm n t r) ∙ h)

pub quiet_clocks : (n : ℕ) (t : Timers) → Ranged t → quiet_of n t ≡ true → clocks_of n t ≡ On (quiet_state_of n t)
quiet_clocks n t r h = calm_clocks n t r (quiet_total n t r h)

pub quiet_state : (n : ℕ) (t : Timers) → Ranged t → quiet_of n t ≡ true → state_of n t ≡ quiet_state_of n t
quiet_state n t r h = calm_state n t r (quiet_total n t r h)

-- no clock moves nothing
pub quiet_zero : (t : Timers) → Ranged t → quiet_state_of 0 t ≡ t
unfolding quiet_of
quiet_zero t r = sym (quiet_state 0 t r refl) ∙ state_zero t r

-- the parts of a stretch are quiet too: its first a clocks, and the b after them
pub quiet_first : (a b : ℕ) (t : Timers) → Ranged t → quiet_of (a + b) t ≡ true → quiet_of a t ≡ true
quiet_first a b t r h =
    let z = ltb-true (a + b) (overflow_at t) (sym (until_law (a + b) t r) ∙ h) in
    until_law a t r ∙ lt-ltb a (overflow_at t) (omega arith)

second_true : (a b : Bool) → a && b ≡ true → b ≡ true
second_true true b h = h
second_true false true h = refl
second_true false false h = h

quiet_iters : (a b : ℕ) (t : Timers) → quiet_of (a + b) t ≡ quiet_of a t && quiet_of b (iter a t)
unfolding quiet_of iter
quiet_iters zero b t = ap (λ (n : ℕ). quiet_of n t) (zero-add b)
quiet_iters (suc a) b t =
    ap (λ (n : ℕ). quiet_of n t) (suc-add a b) ∙ ap (λ (x : Bool). not (overflows t) && x) (quiet_iters a b (clocked t)) ∙
    sym (and_assoc (not (overflows t)) (quiet_of a (clocked t)) (quiet_of b (iter a (clocked t))))

pub quiet_rest : (a b : ℕ) (t : Timers) → Ranged t → quiet_of (a + b) t ≡ true → quiet_of b (quiet_state_of a t) ≡ true
quiet_rest a b t r h =
    ap (quiet_of b) (sym (iter_state a t r ∙ quiet_state a t r (quiet_first a b t r h))) ∙
    second_true (quiet_of a t) (quiet_of b (iter a t)) (sym (quiet_iters a b t) ∙ h)

-- and the two of them come to the same as the whole
iter_iter : (a b : ℕ) (t : Timers) → iter (a + b) t ≡ iter b (iter a t)
unfolding iter
iter_iter zero b t = ap (λ (n : ℕ). iter n t) (zero-add b)
iter_iter (suc a) b t = ap (λ (n : ℕ). iter n t) (suc-add a b) ∙ iter_iter a b (clocked t)

pub quiet_ranged : (n : ℕ) (t : Timers) → Ranged t → quiet_of n t ≡ true → Ranged (quiet_state_of n t)
unfolding quiet_state_of
quiet_ranged n t r h = record {
  bmod = r.bmod;
  bcnt = quiet_total n t r h;
  irqb = r.irqb;
  phase = omega arith;
  count = r.count;
}

quiet_iters_state : (n : ℕ) (t : Timers) → Ranged t → quiet_of n t ≡ true → iter n t ≡ quiet_state_of n t
quiet_iters_state n t r h = iter_state n t r ∙ quiet_state n t r h

pub quiet_join : (a b : ℕ) (t : Timers) → Ranged t → quiet_of (a + b) t ≡ true → quiet_state_of b (quiet_state_of a t) ≡ quiet_state_of (a + b) t
quiet_join a b t r h =
    let q = quiet_first a b t r h in
    sym (quiet_iters_state b (quiet_state_of a t) (quiet_ranged a t r q) (quiet_rest a b t r h)) ∙ ap (iter b) (sym (quiet_iters_state a t r q)) ∙
    sym (iter_iter a b t) ∙ quiet_iters_state (a + b) t r h

-- BCNT only rises
pub quiet_rises : (n : ℕ) (t : Timers) → t.bcnt ≤ total_of n t
unfolding total_of
quiet_rises n t = omega arith
