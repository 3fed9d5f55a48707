-- What the code makes is what the closed form says: a record from its fields, a shift from a product.
-- Assumes nothing.
use Prim.Native.Nat.{ℕ, ◌+◌, ◌-◌, ◌*◌, ◌%◌, ◌/◌, ◌^◌, ◌≤◌, ◌<◌}
use native.Mathlib.Omega.{arith}
use native.Mathlib.Nat.{mod-eq_of_lt}
use mathlib.Core.Path.{◌≡◌, ◌∙◌, ap}
use Rattle.timers.specs.declared.Timers.{Timers}
use Rattle.timers.specs.Taps.{tap_of}
use Rattle.timers.specs.Closed.{reach, irqb_after, count_after, total_of, state_of, quiet_state_of, overflow_at}
use Rattle.timers.proofs.Ticks.{reach_small, reach_later}

-- a shift to the left that loses nothing
abbrev shift : ℕ → ℕ → ℕ → ℕ
shift k p y = (p / 2 ^ k + y) * 2 ^ k % 18446744073709551616

module _ (k p y : ℕ) (h : k ≤ 12) (g : p < 65536) (l : y ≤ 2048) where
  pub shifted : shift k p y ≡ (p / 2 ^ k + y) * 2 ^ k
  shifted = mod-eq_of_lt (omega (arith, reach_small k p y h g l))

  pub shifted_past : 0 < y → p ≤ shift k p y
  shifted_past o = rw shifted (omega (arith, reach_later k p y o))

  pub shifted_reach : (q : ℕ) → p ≡ q → shift k p y - p ≡ reach k q y
  shifted_reach q e = ap (λ (x : ℕ). x - p) shifted ∙ ap (λ (x : ℕ). reach k x y) e

  pub shifted_small : shift k p y - p ≤ 16777216
  shifted_small = rw shifted (omega (arith, reach_small k p y h g l))

  pub shifted_later : 0 < y → 0 < shift k p y - p
  shifted_later o = rw shifted (reach_later k p y o)

module _ (t : Timers) (n c p : ℕ) (ec : c ≡ total_of n t) (ep : p ≡ t.phase) where
  pub quiet_made : ◌≡◌ {A = Timers} (record {
    bmod = t.bmod;
    bcnt = c;
    watched = t.watched;
    irqb = t.irqb;
    phase = (p + n) % 4096;
    count = t.count;
  }) (quiet_state_of n t)
  unfolding quiet_state_of
  quiet_made = λ i. record {
    bmod = t.bmod;
    bcnt = ec i;
    watched = t.watched;
    irqb = t.irqb;
    phase = (ep i + n) % 4096;
    count = t.count;
  }

  pub state_made : (ib co : ℕ) → ib ≡ irqb_after t.irqb c → co ≡ count_after t.watched t.count c → ◌≡◌ {A = Timers} (record {
    bmod = t.bmod;
    bcnt = c % 256;
    watched = t.watched;
    irqb = ib;
    phase = (p + n) % 4096;
    count = co;
  }) (state_of n t)
  unfolding state_of
  state_made ib co e1 e2 =
      let f1 = e1 ∙ ap (irqb_after t.irqb) ec in
      let f2 = e2 ∙ ap (count_after t.watched t.count) ec in
      λ i. record {
        bmod = t.bmod;
        bcnt = ec i % 256;
        watched = t.watched;
        irqb = f1 i;
        phase = (ep i + n) % 4096;
        count = f2 i;
      }

pub over_made : (t : Timers) (k w a : ℕ) → k ≡ tap_of t.bmod → w ≡ t.bcnt → a ≡ reach k t.phase (256 - w) → a ≡ overflow_at t
unfolding overflow_at
over_made t k w a ek ew e = e ∙ ap (λ (x : ℕ). reach x t.phase (256 - w)) ek ∙ ap (λ (x : ℕ). reach (tap_of t.bmod) t.phase (256 - x)) ew
