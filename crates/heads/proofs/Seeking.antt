-- The turns as the code gives them: it looks at one head after another, and goes on where a head has stopped. For any turn.
-- Assumes nothing.
use Prim.Native.Nat.{ℕ, zero, suc}
use mathlib.Core.Path.{◌≡◌, ◌∙◌, refl, sym, ap}
use mathlib.Core.Bool.{Bool, true, false, cond}
use mathlib.Core.List.{[]}
use native.Mathlib.Omega.{arith}
use borrow.Author.Tests.{ne_eqb}
use lib.Dec.{eqb}
use Rattle.heads.specs.Heads.{Head, Heads, goes, after, turn_of, Next, none, head, next_from, Turns, first, turns_from}

module _ (f : Head → Head) (n : ℕ) where
  abbrev given : ℕ → Heads → Next → Heads
  given k hs none = hs
  given k hs (head j) = (turns_from f n k (after n j) (turn_of f j hs)).heads

  -- what the heads come to over k turns, where `look` heads from head i on are looked at for the next
  unfoldable pub seek : ℕ → ℕ → ℕ → Heads → Heads
  seek zero look i hs = hs
  seek (suc k) look i hs = given k hs (next_from n hs i look)

  -- all n are looked at for every turn
  told : (k : ℕ) (hs : Heads) (x : Next) →
      (elim x as (λ z. Turns) [
        | none ↦ record { heads = hs; order = [] }
        | head j ↦ first j (turns_from f n k (after n j) (turn_of f j hs))
      ]).heads ≡ given k hs x
  told k hs none = refl
  told k hs (head j) = refl

  pub seek_all : (k i : ℕ) (hs : Heads) → seek k n i hs ≡ (turns_from f n k i hs).heads
  unfolding seek turns_from
  seek_all zero i hs = refl
  seek_all (suc k) i hs = sym (told k hs (next_from n hs i n))

  -- none is looked at where no turn is left
  pub seek_left : (k i : ℕ) (hs : Heads) → seek k (cond (eqb k 0) 0 n) i hs ≡ (turns_from f n k i hs).heads
  unfolding seek turns_from
  seek_left zero i hs = refl
  seek_left (suc k) i hs = ap (λ (b : Bool). seek (suc k) (cond b 0 n) i hs) (ne_eqb (suc k) 0 (λ e. omega arith)) ∙ seek_all (suc k) i hs

  pub seek_none : (k i : ℕ) (hs : Heads) → seek k 0 i hs ≡ hs
  unfolding seek next_from
  seek_none zero i hs = refl
  seek_none (suc k) i hs = refl

  -- a head that has stopped is passed over; one that hasn't has the turn
  pub seek_past : (k look i : ℕ) (hs : Heads) → goes (hs i) ≡ false → seek k (suc look) i hs ≡ seek k look (after n i) hs
  unfolding seek next_from
  seek_past zero look i hs g = refl
  seek_past (suc k) look i hs g = ap (λ (b : Bool). given k hs (cond b (head i) (next_from n hs (after n i) look))) g

  pub seek_turn : (k look i : ℕ) (hs : Heads) → goes (hs i) ≡ true → seek (suc k) (suc look) i hs ≡ (turns_from f n k (after n i) (turn_of f i hs)).heads
  unfolding seek next_from
  seek_turn k look i hs g = ap (λ (b : Bool). given k hs (cond b (head i) (next_from n hs (after n i) look))) g
