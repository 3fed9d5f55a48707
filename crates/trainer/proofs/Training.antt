-- The trainer's step by value: the image that it makes, and its equation.
-- Assumes nothing.
use Prim.Native.Nat.{ℕ, ◌-◌}
use native.Mathlib.Omega.{arith}
use mathlib.Core.Path.{◌≡◌, ◌∙◌, ap, subst}
use mathlib.Core.Bool.{cond}
use mathlib.Core.List.{List, ◌++◌}
use lib.Dec.{eqb}
use lib.ListN.{length, length-append}
use Rattle.chip.specs.declared.Machine.{Machine}
use Rattle.chip.specs.State.{nibbles}
use Rattle.image.specs.Image.{image_size, machine_of, image_of}
use Rattle.calls.specs.declared.Answer.{Answer}
use Rattle.calls.specs.Calls.{plain_call, Call}
use Rattle.trainer.specs.Trainer.{trained_of, record_after, Trains}

-- nibbles l in front of the bytes of the scalars
pub made_long : (l z : List ℕ) → length l ≡ nibbles → length z ≡ image_size - nibbles → length (l ++ z) ≡ image_size
made_long l z p q = length-append l z ∙ omega arith

-- the equation, from what the parts ensure: s the image made, s' the state that the run left
module _ (rom t g : List ℕ) (e : ℕ) (m : Machine) where
  pub trained : (s s' g' : List ℕ) (r : Answer) (m' : Machine) → s ≡ image_of m → Call (plain_call rom s t g e 1) r s' g' →
      m' ≡ cond (eqb r.steps 0) m (machine_of s') → Trains rom m t g e r m' g'
  unfolding trained_of record_after
  trained s s' g' r m' q h z =
      let c : Call (trained_of rom m t g e) r s' g' = subst (λ (x : List ℕ). Call (plain_call rom x t g e 1) r s' g') q h in
      record {
        answer = c.answer;
        machine =
            z ∙ ap (λ (a : Answer). cond (eqb a.steps 0) m (machine_of s')) c.answer ∙
            ap (λ (x : List ℕ). cond (eqb (trained_of rom m t g e).answer.steps 0) m (machine_of x)) c.state;
        log = c.log;
      }
