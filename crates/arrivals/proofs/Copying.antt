-- A list that is copied over another of its length.
-- Assumes nothing.
use Prim.Native.Nat.{ℕ}
use native.Mathlib.Omega.{arith}
use mathlib.Core.Path.{◌≡◌, ap, ◌∙◌}
use mathlib.Core.List.{List, [], ◌++◌, append-nil}
use lib.ListN.{length, take, drop, drop_of_length-le}
use lib.Seq.{take_all}

-- the first n of each, where they have no more
pub prefix_copied : (n : ℕ) (s d ys : List ℕ) → length s ≡ n → length d ≡ n → ys ≡ take n s → ys ++ drop n d ≡ s
prefix_copied n s d ys p q h =
    let e : drop n d ≡ [] = drop_of_length-le d {i = n} (omega arith) in
    ap (λ (x : List ℕ). ys ++ x) e ∙ append-nil ys ∙ h ∙ take_all n s (omega arith)
