-- A trace and its tidy form replay alike: the tidy form is accepted and means the same. Assumes nothing.
use mathlib.Core.Path.{◌≡◌, sym}
use mathlib.Core.List.{List}
use Prim.Native.Nat.{ℕ}
use Rattle.image.specs.Image.{cpu_of}
use Rattle.invariant.specs.Sound.{Bytes}
use Rattle.tidy.specs.Meaning.{Accepted}
use Rattle.tidy.specs.Tidy.{tidy_of}
use Rattle.tidy.proofs.Theorems.{tidy_accepted, tidy_means}
use Rattle.alike.specs.Alike.{Alike}
use Rattle.alike.proofs.Alike.{alike}

pub tidy_alike : (rom s x : List ℕ) → Bytes rom → Bytes s → (cpu_of s).cursor ≡ 0 → Bytes x → Accepted x → Alike rom s x (tidy_of x)
tidy_alike rom s x b c z t a =
    alike rom s x (tidy_of x)
    (record { rom_bytes = b; state_bytes = c; start = z; first = a; second = tidy_accepted x t a; meaning = sym (tidy_means x) })
