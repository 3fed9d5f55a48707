-- The image of a record is made of bytes.
-- Assumes nothing.
use Prim.Native.Nat.{ℕ, zero, suc, ◌<◌}
use native.Mathlib.Omega.{arith}
use mathlib.Core.List.{List, [], ◌∷◌, ◌++◌}
use Rattle.chip.specs.declared.Machine.{Machine}
use Rattle.image.specs.Image.{scalars_of, image_of}
use Rattle.invariant.specs.Sound.{Bytes}
use Rattle.trainer.specs.Trainer.{Held}

abbrev All : List ℕ → Type 0
All [] = Unit {0}
All (x ∷ l) = (x < 256) × All l

-- bytes one by one, and before other bytes
bytes_then : (l r : List ℕ) → All l → Bytes r → Bytes (l ++ r)
bytes_then [] r a b i = b i
bytes_then (x ∷ l) r a b zero = a.0
bytes_then (x ∷ l) r a b (suc i) = bytes_then l r a.1 b i

all_of : (l : List ℕ) → Bytes l → All l
all_of [] b = tt
all_of (x ∷ l) b = (b 0, all_of l (λ i. b (suc i)))

no_bytes : Bytes []
no_bytes i = omega arith

pub image_bytes : (m : Machine) → Held m → Bytes (image_of m)
unfolding scalars_of
image_bytes m h =
    let c = m.cpu in
    bytes_then m.mem (scalars_of c) (all_of m.mem h.mem)
    (bytes_then (scalars_of c) [] (omega (arith, h)) no_bytes)
