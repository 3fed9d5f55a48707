-- The clocks of a step: so few that BCNT overflows once at most. The watchdog doesn't bite then, unless its count stands at its last.
-- Assumes nothing.
use Prim.Native.Nat.{ℕ, ◌+◌, ◌*◌, ◌/◌, ◌^◌, ◌≤◌, ◌<◌}
use native.Mathlib.Omega.{arith}
use native.Mathlib.Nat.{div-add-mod', mod-lt, div-lt_iff_lt-mul, pow-le-pow_right}
use mathlib.Core.Path.{◌≡◌, refl}
use mathlib.Core.Bool.{Bool, true, false, ◌&&◌}
use lib.Dec.{leb}
use borrow.Author.Tests.{lt-leb}
use Rattle.timers.specs.declared.Timers.{Timers}
use Rattle.timers.specs.declared.Passed.TheVariants.{On}
use Rattle.timers.specs.Taps.{tap_of}
use Rattle.timers.specs.Clock.{counter_values, watchdog_counts, clocks_of, Ranged}
use Rattle.timers.specs.Closed.{ticks, total_of, state_of, bitten_of}
use Rattle.timers.proofs.Ticks.{power}
use Rattle.timers.proofs.Rows.{tap_large}
use Rattle.timers.proofs.Laws.{clocks_on}

-- fx/2^5 is the fastest tap: 256 counts in 8192 clocks
few_ticks : (k p n : ℕ) → 5 ≤ k → n < 8192 → ticks k p n ≤ 256
few_ticks k p n h l =
    let a : 2 ^ 5 ≤ 2 ^ k = pow-le-pow_right (omega arith) h in
    let b = div-add-mod' p (2 ^ k) in
    let c = mod-lt p (power k) in
    let d = (div-lt_iff_lt-mul {x = p + n} {y = p / 2 ^ k + 257} (power k)).1 (omega arith) in
    omega arith

unbitten : (w : Bool) (count c : ℕ) → count < 7 → c < 2 * counter_values → w && leb watchdog_counts (count + c / counter_values) ≡ false
unbitten true count c h l = lt-leb 8 (count + c / 256) (omega arith)
unbitten false count c h l = refl

-- ONE OVERFLOW AT MOST
pub few_clocks : (n : ℕ) (t : Timers) → Ranged t → t.count < 7 → n < 8192 → clocks_of n t ≡ On (state_of n t)
unfolding bitten_of total_of
few_clocks n t r h l =
    let a = few_ticks (tap_of t.bmod) t.phase n (tap_large t.bmod) l in
    let b = r.bcnt in
    clocks_on n t r (unbitten t.watched t.count (total_of n t) h (omega arith))
