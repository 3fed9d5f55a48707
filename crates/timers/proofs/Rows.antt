-- Table 11-2's taps: whole turns of the divider, the row that the code doesn't name, and their bounds.
-- Assumes nothing.
use Prim.Native.Nat.{ℕ, zero, suc, ◌%◌, ◌≤◌, ◌<◌}
use native.Mathlib.Omega.{arith}
use native.Mathlib.Nat.{mod-lt}
use mathlib.Core.Path.{◌≡◌, refl, sym, ap}
use lib.ListN.{get_or}
use Rattle.timers.specs.Taps.{table_11_2, tap_of}
use Rattle.timers.proofs.Ticks.{Whole}

row : (i : ℕ) → Whole (get_or table_11_2 i 12)
unfolding table_11_2
row zero = refl
row (suc zero) = refl
row (suc (suc zero)) = refl
row (suc (suc (suc zero))) = refl
row (suc (suc (suc (suc zero)))) = refl
row (suc (suc (suc (suc (suc zero))))) = refl
row (suc (suc (suc (suc (suc (suc zero)))))) = refl
row (suc (suc (suc (suc (suc (suc (suc zero))))))) = refl
row (suc (suc (suc (suc (suc (suc (suc (suc i)))))))) = refl

pub tap_whole : (bmod : ℕ) → Whole (tap_of bmod)
unfolding tap_of
tap_whole bmod = row (bmod % 8)

-- the last row, which the code doesn't name
past_three : (x : ℕ) → (x ≡ 0 → ⊥) → (x ≡ 1 → ⊥) → (x ≡ 2 → ⊥) → (x ≡ 3 → ⊥) → 3 < x
past_three x a b c d = omega arith

seven : (x : ℕ) → 3 < x → x < 8 → (x ≡ 4 → ⊥) → (x ≡ 5 → ⊥) → (x ≡ 6 → ⊥) → x ≡ 7
seven x h l a b c = omega arith

pub tap_last : (i : ℕ) → (i % 8 ≡ 0 → ⊥) → (i % 8 ≡ 1 → ⊥) → (i % 8 ≡ 2 → ⊥) → (i % 8 ≡ 3 → ⊥) → (i % 8 ≡ 4 → ⊥) → (i % 8 ≡ 5 → ⊥) → (i % 8 ≡ 6 → ⊥) → 5 ≡ get_or table_11_2 (i % 8) 12
unfolding table_11_2
tap_last i a b c d e f g = ap (λ (x : ℕ). get_or table_11_2 x 12) (sym (seven (i % 8) (past_three (i % 8) a b c d) (mod-lt i (omega arith)) e f g))

-- a tap is at most 12
row_small : (i : ℕ) → get_or table_11_2 i 12 ≤ 12
unfolding table_11_2
row_small zero = omega arith
row_small (suc zero) = omega arith
row_small (suc (suc zero)) = omega arith
row_small (suc (suc (suc zero))) = omega arith
row_small (suc (suc (suc (suc zero)))) = omega arith
row_small (suc (suc (suc (suc (suc zero))))) = omega arith
row_small (suc (suc (suc (suc (suc (suc zero)))))) = omega arith
row_small (suc (suc (suc (suc (suc (suc (suc zero))))))) = omega arith
row_small (suc (suc (suc (suc (suc (suc (suc (suc i)))))))) = omega arith

pub tap_small : (bmod : ℕ) → tap_of bmod ≤ 12
unfolding tap_of
tap_small bmod = row_small (bmod % 8)

-- and at least 5
row_large : (i : ℕ) → 5 ≤ get_or table_11_2 i 12
unfolding table_11_2
row_large zero = omega arith
row_large (suc zero) = omega arith
row_large (suc (suc zero)) = omega arith
row_large (suc (suc (suc zero))) = omega arith
row_large (suc (suc (suc (suc zero)))) = omega arith
row_large (suc (suc (suc (suc (suc zero))))) = omega arith
row_large (suc (suc (suc (suc (suc (suc zero)))))) = omega arith
row_large (suc (suc (suc (suc (suc (suc (suc zero))))))) = omega arith
row_large (suc (suc (suc (suc (suc (suc (suc (suc i)))))))) = omega arith

pub tap_large : (bmod : ℕ) → 5 ≤ tap_of bmod
unfolding tap_of
tap_large bmod = row_large (bmod % 8)
