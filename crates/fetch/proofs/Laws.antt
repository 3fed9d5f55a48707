-- A code address modulo N lies in what is read.
-- Assumes nothing.
use Prim.Native.Nat.{ℕ, ◌%◌, ◌≤◌, ◌<◌}
use native.Mathlib.Omega.{arith}
use mathlib.Core.Path.{◌≡◌, refl, subst}
use mathlib.Core.Bool.{Bool, true, false, cond}
use lib.Dec.{eqb}
use borrow.Author.Tests.{eqb-true}
use Rattle.chip.specs.State.{wrap_of}
use Rattle.fetch.specs.declared.Origin.{Origin}
use Rattle.fetch.specs.declared.Origin.TheVariants.{Rom, Table}
use Rattle.fetch.specs.Fetch.{size_of}

-- the choice of the two moduli, by what the test says
choice_lt : (n p : ℕ) (b : Bool) → eqb n 4096 ≡ b → 2048 ≤ n → cond b (p % 4096) (p % 2048) < n
choice_lt n p true e h = omega (arith, eqb-true n 4096 e)
choice_lt n p false e h = omega arith

pub wrap_lt : (n p : ℕ) → 2048 ≤ n → wrap_of n p < n
wrap_lt n p h = choice_lt n p (eqb n 4096) refl h

-- the bytes of a ROM, and of a table, of at least 2,048 addresses
module _ {s : Origin} (l : ℕ) (h : 2048 ≤ size_of s l) where
  pub rom_long : s ≡ Rom → 2048 ≤ l
  rom_long e = subst (λ (x : Origin). 2048 ≤ size_of x l) e h

  pub table_long : s ≡ Table → 8192 ≤ l
  table_long e = let g : 2048 ≤ size_of Table l = subst (λ (x : Origin). 2048 ≤ size_of x l) e h in omega arith
