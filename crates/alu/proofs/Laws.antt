-- Which rows are left where a match on an instruction has passed over some: their numbers, in the printed order.
-- Assumes nothing.
use Prim.Native.Nat.{ℕ, zero, suc, ◌≤◌}
use native.Mathlib.Omega.{arith}
use mathlib.Core.Path.{◌≡◌, refl, sym, subst}
use mathlib.Core.Bool.{Bool, true, false, ◌||◌, ◌&&◌}
use mathlib.Core.List.{List, [], ◌∷◌}
use mathlib.Core.Logic.{◌⊎◌, inl, inr}
use lib.Dec.{T, ltb, leb, ltb→lt, leb→le}
use types.Run.{OneOf}

-- n keys from k on
abbrev pub keys : ℕ → ℕ → List ℕ
keys k zero = []
keys k (suc n) = k ∷ keys (suc k) n

-- each key is below a, or at least m
abbrev pub apart : ℕ → ℕ → List ℕ → Bool
apart a m [] = true
apart a m (k ∷ ks) = (ltb k a || leb m k) && apart a m ks

both : (p q : Bool) → T (p && q) → T p × T q
both true q t = (tt, t)
both false q t = absurd t

at_key : (p q : Bool) (a m k x : ℕ) → ltb k a ≡ p → leb m k ≡ q → T (p || q) → a ≤ x → x ≡ k → m ≤ x
at_key true q a m k x e f t h g = let z = ltb→lt k a (subst T (sym e) tt) in absurd (omega arith)
at_key false true a m k x e f t h g = let z = leb→le m k (subst T (sym f) tt) in omega arith
at_key false false a m k x e f t h g = absurd t

key : (a m k x : ℕ) → T (ltb k a || leb m k) → a ≤ x → x ≡ k → m ≤ x
key a m k x t h g = at_key (ltb k a) (leb m k) a m k x refl refl t h g

-- a number from a on that is one of the keys is at least m
pub later : (a m : ℕ) (ks : List ℕ) (x : ℕ) → T (apart a m ks) → a ≤ x → OneOf ks x → m ≤ x
later a m [] x t h o = absurd o
later a m (k ∷ []) x t h o = key a m k x (both (ltb k a || leb m k) true t).0 h o
later a m (k ∷ l ∷ ks) x t h (inl o) = key a m k x (both (ltb k a || leb m k) (apart a m (l ∷ ks)) t).0 h o
later a m (k ∷ l ∷ ks) x t h (inr o) = later a m (l ∷ ks) x (both (ltb k a || leb m k) (apart a m (l ∷ ks)) t).1 h o
