-- Laws of the chip's definitions.
-- Assumes nothing.
use Prim.Native.Nat.{ℕ, zero, suc, ◌/◌, ◌%◌, ◌≤◌, ◌<◌}
use native.Mathlib.Omega.{arith}
use mathlib.Core.Path.{◌≡◌, refl, ◌∙◌}
use mathlib.Core.Bool.{Bool, true, false, cond}
use mathlib.Core.List.{List, [], ◌∷◌}
use lib.ListN.{length, get_or, drop, length-set}
use Rattle.chip.specs.Memory.{put_of}
use Rattle.chip.specs.Reset.{with_values}

-- what two things have, a choice of them has
pub either : {A : Type 0} (P : A → Type 0) (b : Bool) {x y : A} → P x → P y → P (cond b x y)
either P true p q = p
either P false p q = q

-- a choice of two small numbers is small
pub cond_lt : (c : Bool) (a b : ℕ) {n : ℕ} → a < n → b < n → cond c a b < n
cond_lt c a b {n} h k = either (λ (x : ℕ). x < n) c h k

-- writes in turn keep the length
pub length_values : (l xs : List ℕ) → length (with_values l xs) ≡ length l
unfolding with_values
length_values l [] = refl
length_values l (x ∷ xs) = length_values (put_of l x) xs ∙ length-set l (x / 16) (x % 16)

-- the writes from i on are write i, and then those behind it
pub next_value : (l xs : List ℕ) (i : ℕ) → i < length xs → with_values l (drop i xs) ≡ with_values (put_of l (get_or xs i 0)) (drop (suc i) xs)
unfolding with_values
next_value l [] i h = absurd (omega arith)
next_value l (x ∷ xs) zero h = refl
next_value l (x ∷ xs) (suc i) h = next_value l xs i (omega arith)

-- past the last there are none
pub no_values : (l xs : List ℕ) (i : ℕ) → length xs ≤ i → with_values l (drop i xs) ≡ l
unfolding with_values
no_values l [] zero h = refl
no_values l [] (suc i) h = refl
no_values l (x ∷ xs) zero h = absurd (omega arith)
no_values l (x ∷ xs) (suc i) h = no_values l xs i (omega arith)
