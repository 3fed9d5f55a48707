-- What is read off the digits of a location's number is what its own columns say.
-- Assumes nothing.
use Prim.Native.Nat.{ℕ, ◌/◌, ◌%◌, ◌<◌}
use native.Mathlib.Omega.{arith}
use mathlib.Core.Path.{◌≡◌, refl, ap₂}
use mathlib.Core.Bool.{Bool, true, false, cond, ◌&&◌}
use mathlib.Core.List.{List, [], ◌∷◌}
use borrow.Author.Tests.{ltb-true}
use lib.Dec.{eqb, ltb}
use lib.Bits.{bit_and}
use Rattle.rights.specs.declared.Width.{Width}
use Rattle.rights.specs.declared.Width.TheVariants.{One, Four, Eight}
use Rattle.rights.specs.Access.{Location, table_4_1, among, location_at, column_of, reach_of, readable_of, writable_of}
use Rattle.rights.specs.Digits.{digits_of, rights_at, column_in, reach_in, readable_in, writable_in}

-- each column is a digit
abbrev narrow : Location → Bool
narrow v = ltb v.bits 16 && (ltb v.one 16 && (ltb v.four 16 && (ltb v.eight 16 && ltb v.access 4)))

abbrev all_narrow : List Location → Bool
all_narrow [] = true
all_narrow (v ∷ vs) = narrow v && all_narrow vs

table_narrow : all_narrow table_4_1 ≡ true
unfolding table_4_1
table_narrow = refl

left_of : (p q : Bool) → p && q ≡ true → p ≡ true
left_of true q h = refl
left_of false q h = h

right_of : (p q : Bool) → p && q ≡ true → q ≡ true
right_of true q h = h
right_of false q h = absurd (let z : ◌≡◌ {A = ℕ} 0 1 = cc in omega arith)

choice : (b : Bool) (v w : Location) → narrow v ≡ true → narrow w ≡ true → narrow (cond b v w) ≡ true
choice true v w p q = p
choice false v w p q = q

among_narrow : (vs : List Location) (a : ℕ) → all_narrow vs ≡ true → narrow (among vs a) ≡ true
unfolding among
among_narrow [] a h = refl
among_narrow (v ∷ vs) a h = choice (eqb a v.address) v (among vs a) (left_of (narrow v) (all_narrow vs) h) (among_narrow vs a (right_of (narrow v) (all_narrow vs) h))

listed_narrow : (a : ℕ) → narrow (location_at a) ≡ true
unfolding location_at
listed_narrow a = among_narrow table_4_1 a table_narrow

record Narrow (v : Location) : Type 0 where
  pub bits : v.bits < 16
  pub one : v.one < 16
  pub four : v.four < 16
  pub eight : v.eight < 16
  pub access : v.access < 4

narrowed : (v : Location) → narrow v ≡ true → Narrow v
narrowed v h =
    let p = right_of (ltb v.bits 16) _ h in
    let q = right_of (ltb v.one 16) _ p in
    let r = right_of (ltb v.four 16) _ q in
    record {
      bits = ltb-true v.bits 16 (left_of (ltb v.bits 16) _ h);
      one = ltb-true v.one 16 (left_of (ltb v.one 16) _ p);
      four = ltb-true v.four 16 (left_of (ltb v.four 16) _ q);
      eight = ltb-true v.eight 16 (left_of (ltb v.eight 16) _ r);
      access = ltb-true v.access 4 (right_of (ltb v.eight 16) _ r);
    }

module _ (v : Location) (n : Narrow v) where
  digits_column : (w : Width) → column_in w (digits_of v) ≡ column_of w v
  digits_column One = omega (arith, n.bits, n.one)
  digits_column Four = omega (arith, n.bits, n.one, n.four)
  digits_column Eight = omega (arith, n.bits, n.one, n.four, n.eight)

  digits_bits : digits_of v % 16 ≡ v.bits
  digits_bits = omega (arith, n.bits)

  digits_reach : (w : Width) → reach_in w (digits_of v) ≡ reach_of w v
  unfolding reach_in
  digits_reach w = ap₂ bit_and (digits_column w) digits_bits

  reads : digits_of v / 0x10000 % 2 ≡ v.access % 2
  reads = omega (arith, n.bits, n.one, n.four, n.eight, n.access)

  writes : digits_of v / 0x20000 % 2 ≡ v.access / 2
  writes = omega (arith, n.bits, n.one, n.four, n.eight, n.access)

  digits_readable : (w : Width) → readable_in w (digits_of v) ≡ readable_of w v
  unfolding readable_in
  digits_readable w = ap₂ (λ (x y : ℕ). cond (eqb x 1) y 0) reads (digits_reach w)

  digits_writable : (w : Width) → writable_in w (digits_of v) ≡ writable_of w v
  unfolding writable_in
  digits_writable w = ap₂ (λ (x y : ℕ). cond (eqb x 1) y 0) writes (digits_column w)

-- at an address
module _ (a : ℕ) where
  here : Narrow (location_at a)
  here = narrowed (location_at a) (listed_narrow a)

  pub bits_at : rights_at a % 16 ≡ (location_at a).bits
  unfolding rights_at
  bits_at = digits_bits (location_at a) here

  pub reach_at : (w : Width) → reach_in w (rights_at a) ≡ reach_of w (location_at a)
  unfolding rights_at
  reach_at w = digits_reach (location_at a) here w

  pub readable_at : (w : Width) → readable_in w (rights_at a) ≡ readable_of w (location_at a)
  unfolding rights_at
  readable_at w = digits_readable (location_at a) here w

  pub writable_at : (w : Width) → writable_in w (rights_at a) ≡ writable_of w (location_at a)
  unfolding rights_at
  writable_at w = digits_writable (location_at a) here w
