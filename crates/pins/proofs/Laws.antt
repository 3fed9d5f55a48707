-- A nibble of the pins is what a shift by its bits leaves lowest, as the chip's code has it.
-- Assumes nothing.
use Prim.Native.Nat.{ℕ, zero, suc, ◌+◌, ◌*◌, ◌/◌, ◌%◌, ◌^◌}
use native.Mathlib.Nat.{pow-suc}
use lib.Pow.{pow-add}
use native.Mathlib.Omega.{arith}
use mathlib.Core.Path.{◌≡◌, ◌∙◌, refl, sym, ap}
use Rattle.pins.specs.Pins.{nibble}

powers : (p : ℕ) → 2 ^ (4 * p) ≡ 16 ^ p
powers zero = refl
powers (suc p) =
    let e : 4 * suc p ≡ 4 * p + 4 = omega arith in
    ap (λ (k : ℕ). 2 ^ k) e ∙ pow-add 2 (4 * p) 4 ∙ ap (λ (x : ℕ). x * 16) (powers p) ∙ sym (pow-suc 16 p)

pub shifted : (pins p : ℕ) → pins / 2 ^ (4 * p) % 16 ≡ nibble pins p
shifted pins p = ap (λ (x : ℕ). pins / x % 16) (powers p)
