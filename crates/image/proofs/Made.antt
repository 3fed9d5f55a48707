-- An image made of nibbles and of the scalars stored behind them.
-- Assumes nothing.
use Prim.Native.Nat.{ℕ}
use mathlib.Core.Path.{◌≡◌, ◌∙◌, ap}
use mathlib.Core.List.{List, ◌++◌}
use lib.ListN.{length, take}
use lib.Seq.{take_at}
use Rattle.chip.specs.declared.Machine.{Machine}
use Rattle.chip.specs.State.{nibbles}
use Rattle.image.specs.Image.{scalars_of, image_of}

-- the nibbles l over the first bytes, and the scalars stored behind them
pub image_made : (m : Machine) (l z s : List ℕ) → length l ≡ nibbles → l ≡ m.mem → s ≡ take nibbles (l ++ z) ++ scalars_of m.cpu → s ≡ image_of m
image_made m l z s n q h = h ∙ ap (λ (x : List ℕ). x ++ scalars_of m.cpu) (take_at l z nibbles n ∙ q)
