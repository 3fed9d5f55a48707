-- What a skip passes, as one number.
-- Assumes nothing.
use Prim.Native.Nat.{ℕ, ◌%◌}
use native.Mathlib.Omega.{arith}
use mathlib.Core.Path.{◌≡◌}
use mathlib.Core.Bool.{Bool, true, false, cond}
use borrow.Author.Tests.{ne_eqb}
use Rattle.outcomes.specs.Carried.{undefined_skip, skipped_as}
use Rattle.outcomes.specs.Outcomes.{bytes, undefined}

pub ads_skip : (r : ℕ) (b : Bool) → r ≡ cond b 1 0 → skipped_as r ≡ bytes (cond b 1 0)
ads_skip r true e = rw e
ads_skip r false e = rw e

pub code_skip : (r : ℕ) (b : Bool) (i : ℕ) → r ≡ cond b undefined_skip (i % 4) → skipped_as r ≡ cond b undefined (bytes (i % 4))
code_skip r true i e = rw e
code_skip r false i e = rw e (rw (ne_eqb (i % 4) undefined_skip (λ q. let z : ⊥ = omega arith in z)))
