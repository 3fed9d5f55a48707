-- A nibble after a write.
-- Assumes nothing.
use Prim.Native.Nat.{ℕ, ◌%◌, ◌/◌, ◌<◌}
use native.Mathlib.Omega.{arith}
use mathlib.Core.Path.{◌≡◌, ◌∙◌, sym, ap}
use mathlib.Core.List.{List}
use lib.ListN.{length}
use lib.Seq.{get_or-set_same, get_or-set_other}
use Rattle.chip.specs.State.{nib_at}
use Rattle.chip.specs.Memory.{put_of}

module _ (l : List ℕ) (w i : ℕ) where
  pub hit : i < length l → w / 16 ≡ i → w % 16 ≡ nib_at (put_of l w) i
  hit h e =
      let g : w / 16 < length l = omega arith in
      let q : w % 16 ≡ w % 16 % 16 = omega arith in
      q ∙ ap (λ (x : ℕ). x % 16) (sym (get_or-set_same l (w / 16) (w % 16) 0 g)) ∙ ap (nib_at (put_of l w)) e

  pub miss : (w / 16 ≡ i → ⊥) → nib_at l i ≡ nib_at (put_of l w) i
  miss h = ap (λ (x : ℕ). x % 16) (sym (get_or-set_other l (w / 16) i (w % 16) 0 (λ q. h (sym q))))
