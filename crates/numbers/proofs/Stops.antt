-- A stop's number is not done's.
-- Assumes nothing.
use Prim.Native.Nat.{ℕ, ◌≤◌}
use native.Mathlib.Omega.{arith}
use mathlib.Core.Path.{◌≡◌}
use mathlib.Core.Logic.{inl, inr}
use Rattle.numbers.specs.Numbers.{done, code_stop, Stop}

pub from_nine : (k : ℕ) → Stop k → code_stop ≤ k
from_nine k (inl h) = h.0
from_nine k (inr h) = let z = h.0 in omega arith

pub not_done : (k : ℕ) → Stop k → k ≡ done → ⊥
not_done k h e = let z = from_nine k h in omega arith
