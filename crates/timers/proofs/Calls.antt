-- What `pass`, `quiet_cycles` and `pass_quiet` rest on: the laws, at what their calls ensure.
-- Assumes nothing.
use Prim.Native.Nat.{ℕ, ◌+◌, ◌-◌, ◌/◌, ◌≤◌, ◌<◌}
use native.Mathlib.Omega.{arith}
use mathlib.Core.Path.{◌≡◌, ◌∙◌, sym, ap, subst}
use mathlib.Core.Bool.{Bool, true, false, ◌&&◌}
use lib.Dec.{leb}
use borrow.Author.Tests.{ltb-true}
use Rattle.timers.specs.declared.Timers.{Timers}
use Rattle.timers.specs.declared.Passed.TheVariants.{On, Reset}
use Rattle.timers.specs.Taps.{tap_of}
use Rattle.timers.specs.Clock.{clocks_of, quiet_of, QuietCycles, Ranged}
use Rattle.timers.specs.Closed.{total_of, state_of, bitten_of, bite_at, overflow_at}
use Rattle.timers.proofs.Ticks.{reach_small}
use Rattle.timers.proofs.Rows.{tap_small}
use Rattle.timers.proofs.Laws.{clocks_on, clocks_reset}
use Rattle.timers.proofs.Quiet.{until_law, quiet_cycles_law}

module _ (n : ℕ) (t : Timers) (r : Ranged t) where
  bites_as : (c : ℕ) (b : Bool) → c ≡ total_of n t → b ≡ t.watched && leb 8 (t.count + c / 256) → b ≡ bitten_of n t
  unfolding bitten_of
  bites_as c b ec e = e ∙ ap (λ (x : ℕ). t.watched && leb 8 (t.count + x / 256)) ec

  pub passes_on : (c : ℕ) (b : Bool) (s : Timers) → c ≡ total_of n t → b ≡ t.watched && leb 8 (t.count + c / 256) → b ≡ false → s ≡ state_of n t → On s ≡ clocks_of n t
  passes_on c b s ec e f es = ap On es ∙ sym (clocks_on n t r (sym (bites_as c b ec e) ∙ f))

  pub passes_reset : (c : ℕ) (b : Bool) (s : Timers) → c ≡ total_of n t → b ≡ t.watched && leb 8 (t.count + c / 256) → b ≡ true → s ≡ state_of (bite_at t) t → Reset s ≡ clocks_of n t
  passes_reset c b s ec e f es = ap Reset es ∙ sym (clocks_reset t r n (sym (bites_as c b ec e) ∙ f))

-- the next overflow is near
overflow_small : (t : Timers) → Ranged t → overflow_at t ≤ 16777216
unfolding overflow_at
overflow_small t r =
    let p : t.phase < 65536 = let z = r.phase in omega arith in
    omega (arith, reach_small (tap_of t.bmod) t.phase (256 - t.bcnt) (tap_small t.bmod) p (omega arith))

pub quiet_small : (n : ℕ) (t : Timers) → Ranged t → quiet_of n t ≡ true → n < 16777216
quiet_small n t r q =
    let a = ltb-true n (overflow_at t) (sym (until_law n t r) ∙ q) in
    omega (arith, overflow_small t r)

-- whole cycles before it
pub cycles_below : (t : Timers) (u r : ℕ) → Ranged t → u ≡ overflow_at t → 0 < r → ((u - 1) / r ≡ (overflow_at t - 1) / r) × QuietCycles ((u - 1) / r) r t
cycles_below t u r g e h =
    let q : (u - 1) / r ≡ (overflow_at t - 1) / r = ap (λ (x : ℕ). (x - 1) / r) e in
    (q, subst (λ (x : ℕ). QuietCycles x r t) (sym q) (quiet_cycles_law t r g h))
