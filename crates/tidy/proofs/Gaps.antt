-- A gap cut into waits, and how many bytes the parts of an event take. Assumes nothing.
use Prim.Native.Nat.{ℕ, zero, suc, ◌+◌, ◌*◌, ◌≤◌, ◌<◌}
use native.Mathlib.Omega.{arith}
use mathlib.Core.Path.{◌≡◌, refl}
use mathlib.Core.Bool.{Bool, true, false, cond}
use mathlib.Core.List.{[], ◌∷◌}
use borrow.Author.Tests.{eq-eqb, ne_eqb}
use lib.Dec.{eqb}
use lib.ListN.{length, length-append}
use Rattle.words.specs.Words.{bytes_of}
use Rattle.tidy.specs.Meaning.{Event}
use Rattle.tidy.specs.Tidy.{full_waits, own_wait, wait_bytes, full_wait_bytes, field_bytes, record_bytes, event_bytes}

-- how many bytes the fields take
abbrev pub fields_size : Event → ℕ
fields_size e = length (field_bytes e.ports e.pins 0 7)

pub no_wait_size : (w : ℕ) → w ≡ 0 → length (wait_bytes w) ≡ 1
no_wait_size w h = rw (eq-eqb w 0 h)

pub wait_size : (w : ℕ) → (w ≡ 0 → ⊥) → length (wait_bytes w) ≡ 3
wait_size w h = rw (ne_eqb w 0 h)

pub full_size : (n : ℕ) → length (full_wait_bytes n) ≡ 4 * n
full_size zero = refl
full_size (suc n) = omega (arith, full_size n)

pub record_size_lem : (w : ℕ) (e : Event) → length (record_bytes w e) ≡ 1 + length (wait_bytes w) + fields_size e
record_size_lem w e = omega (arith, length-append (wait_bytes w) (field_bytes e.ports e.pins 0 7))

pub event_size : (g : ℕ) (e : Event) → length (event_bytes g e) ≡ 4 * full_waits g + (1 + length (wait_bytes (own_wait g)) + fields_size e)
event_size g e = omega (arith, length-append (full_wait_bytes (full_waits g)) (record_bytes (own_wait g) e), full_size (full_waits g), record_size_lem (own_wait g) e)

-- the parts make the gap, and the last part is 0 for a gap of 0 alone
pub cut : (g : ℕ) → 65535 * full_waits g + own_wait g ≡ g
cut g = omega arith

pub own_fits : (g : ℕ) → own_wait g ≤ 65535
own_fits g = omega arith

pub own_some : (g : ℕ) → 0 < g → 0 < own_wait g
own_some g h = omega arith

pub wait_at_most : (w : ℕ) → length (wait_bytes w) ≤ 3
wait_at_most w = by (eqb w 0)
  where
    by : (b : Bool) → length (cond b (0 ∷ []) (1 ∷ bytes_of 2 w)) ≤ 3
    by true = omega arith
    by false = omega arith
