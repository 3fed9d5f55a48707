-- Where a record's fields stand: the sums fit, and stay within the record.
-- Assumes nothing.
use Prim.Native.Nat.{ℕ, zero, suc, ◌+◌, ◌*◌, ◌≤◌}
use native.Mathlib.Nat.{le_refl}
use native.Mathlib.Omega.{arith}
use mathlib.Core.Path.{◌≡◌, ap₂}
use lib.Dec.{T, leb, leb→le}
use mir.Syntax.{w64}
use mir.Val.{Fits}
use borrow.Author.Rules.{Fits-under}
use Rattle.record.specs.Record.{offset}

pub held : (n x : ℕ) → x ≤ n → T (leb n 100) → Fits w64 x
held n x h t = let k = leb→le n 100 t in Fits-under w64 x 101 (omega arith) tt

pub twice : {x : ℕ} → x ≤ 1 → 2 * x ≤ 2
twice h = omega arith

pub base : {x : ℕ} → x ≤ 1 → 2 + 2 * x ≤ 4
base h = omega arith

pub more : {n x y : ℕ} → x ≤ n → y ≤ 1 → x + y ≤ suc n
more h k = omega arith

pub plus : {a b x y : ℕ} → a ≡ x → b ≡ y → a + b ≡ x + y
plus e f = ap₂ ◌+◌ e f

-- m fields on from field k
abbrev pub on : ℕ → ℕ → ℕ
on k zero = k
on k (suc m) = suc (on k m)

grows : (lo hi k m : ℕ) → offset lo hi k ≤ offset lo hi (on k m)
grows lo hi k zero = le_refl (offset lo hi k)
grows lo hi k (suc m) = let h = grows lo hi k m in omega arith

-- a place that is the start of field k is within what holds the m fields from there on
pub room : (lo hi k m : ℕ) {o n : ℕ} → o ≡ offset lo hi k → offset lo hi (on k m) ≤ n → o ≤ n
room lo hi k m e h = let g = grows lo hi k m in omega arith
