-- Laws of packed pins: the nibbles of a packed number are the ones that were packed.
-- Assumes nothing.
use Prim.Native.Nat.{ℕ, zero, suc, ◌^◌, ◌<◌}
use native.Mathlib.Omega.{arith}
use mathlib.Core.Path.{◌≡◌}
use mathlib.Core.Bool.{Bool, true, false, cond}
use lib.Dec.{eqb}
use Rattle.pins.specs.Pins.{pin_count, nibble, packed}
use Rattle.record.specs.Record.{bit_of, pins_after}
use Rattle.record.specs.Fields.{Nibbles}
use Rattle.record.specs.declared.Record.{Record}

-- what holds of P0 to P6 holds of every port
pub seven : (P : ℕ → Type 0) → P 0 → P 1 → P 2 → P 3 → P 4 → P 5 → P 6 → (k : ℕ) → k < 7 → P k
seven P p0 p1 p2 p3 p4 p5 p6 zero h = p0
seven P p0 p1 p2 p3 p4 p5 p6 (suc zero) h = p1
seven P p0 p1 p2 p3 p4 p5 p6 (suc (suc zero)) h = p2
seven P p0 p1 p2 p3 p4 p5 p6 (suc (suc (suc zero))) h = p3
seven P p0 p1 p2 p3 p4 p5 p6 (suc (suc (suc (suc zero)))) h = p4
seven P p0 p1 p2 p3 p4 p5 p6 (suc (suc (suc (suc (suc zero))))) h = p5
seven P p0 p1 p2 p3 p4 p5 p6 (suc (suc (suc (suc (suc (suc zero)))))) h = p6
seven P p0 p1 p2 p3 p4 p5 p6 (suc (suc (suc (suc (suc (suc (suc k))))))) h = absurd (omega arith)

pub nibble_packed : (f : ℕ → ℕ) → Nibbles f → (k : ℕ) → k < 7 → nibble (packed f) k ≡ f k
nibble_packed f n =
    seven (λ (k : ℕ). nibble (packed f) k ≡ f k) (omega arith) (omega arith) (omega arith) (omega arith) (omega arith) (omega arith) (omega arith)

module _ (old : ℕ) (r : Record) where
  abbrev after : ℕ → ℕ
  after k = cond (eqb (bit_of r.ports k) 1) (nibble r.pins k) (nibble old k)

  choice : (b : Bool) (m x y : ℕ) → x < m → y < m → cond b x y < m
  choice true m x y h g = h
  choice false m x y h g = g

  small : (k : ℕ) → after k < 16
  small k = choice (eqb (bit_of r.ports k) 1) 16 (nibble r.pins k) (nibble old k) (omega arith) (omega arith)

  -- port k after the record
  pub nibble_after : (k : ℕ) → k < 7 → nibble (pins_after old r) k ≡ cond (eqb (bit_of r.ports k) 1) (nibble r.pins k) (nibble old k)
  unfolding pins_after
  nibble_after = nibble_packed after (record { n0 = small 0; n1 = small 1; n2 = small 2; n3 = small 3; n4 = small 4; n5 = small 5; n6 = small 6 })

  -- a record without absent pins leaves none, where there were none
  pub after_present : (k : ℕ) → k < 7 → nibble old k < 2 ^ pin_count k → nibble r.pins k < 2 ^ pin_count k → nibble (pins_after old r) k < 2 ^ pin_count k
  after_present k h g n = rw (nibble_after k h) (choice (eqb (bit_of r.ports k) 1) (2 ^ pin_count k) (nibble r.pins k) (nibble old k) n g)
