-- Laws of the marks and of the farm of a clock. Assumes nothing.
use Prim.Native.Nat.{ℕ, zero, suc, ◌+◌, ◌≤◌, ◌<◌}
use native.Mathlib.Omega.{arith}
use native.Mathlib.Numerals.{add-one}
use mathlib.Core.Path.{◌≡◌, refl, sym, ap}
use mathlib.Core.Bool.{Bool, true, false, cond, and-false}
use mathlib.Core.List.{List, [], ◌∷◌}
use borrow.Author.Tests.{le-leb, leb-true}
use lib.Dec.{leb, ltb}
use lib.ListN.{length, get_or, drop}
use Rattle.std.specs.List.{IsAllAdjacentAnswer, prefix_len}
use Rattle.litres.specs.declared.log.Change.{Change}
use Rattle.litres.specs.Log.{sound_from}
use Rattle.litres.specs.Farms.{most_farms, rising, rising_after, are_marks, farm_of}
use Rattle.litres.proofs.Records.{both, not_fallen, sound_rest}

-- marks rise where each is before the next, and not where one is not
rise_by : (m : ℕ) (ms : List ℕ) → ((k : ℕ) → suc k < length (m ∷ ms) → true ≡ ltb (get_or (m ∷ ms) k 0) (get_or (m ∷ ms) (suc k) 0)) → rising_after m ms ≡ true
unfolding rising_after
rise_by m [] h = refl
rise_by m (n ∷ ns) h =
    let first : ltb m n ≡ true = sym (h 0 (omega arith)) in
    simp (first, rise_by n ns (λ k l. h (suc k) (omega arith)))

fall_by : (m : ℕ) (ms : List ℕ) (k : ℕ) → suc k < length (m ∷ ms) → false ≡ ltb (get_or (m ∷ ms) k 0) (get_or (m ∷ ms) (suc k) 0) → rising_after m ms ≡ false
unfolding rising_after
fall_by m [] k l h = absurd (omega arith)
fall_by m (n ∷ ns) zero l h = simp (sym h)
fall_by m (n ∷ ns) (suc k) l h = simp (fall_by n ns k (omega arith) h, and-false)

pub rising_answer : (marks : List ℕ) (r : Bool) → IsAllAdjacentAnswer (λ x y b. b ≡ ltb x y) marks r → r ≡ rising marks
unfolding rising rising_after
rising_answer [] true h = refl
rising_answer [] false h = absurd (let l = h.1 in omega arith)
rising_answer (m ∷ ms) true h = sym (rise_by m ms (λ k l. rw add-one at (h k 0 (omega arith))))
rising_answer (m ∷ ms) false h = sym (fall_by m ms h.0 (omega (arith, h.1)) (rw add-one at (h.2 0)))

-- the farm of a clock is how many of the marks, from the first on, are not behind it
pub farm_prefix : (marks : List ℕ) (clock : ℕ) → prefix_len (λ m. leb m clock) marks ≡ farm_of marks clock
unfolding farm_of
farm_prefix [] clock = refl
farm_prefix (m ∷ ms) clock = ap (λ (n : ℕ). cond (leb m clock) n 0) (let one : 1 + prefix_len (λ m. leb m clock) ms ≡ suc (farm_of ms clock) = omega (arith, farm_prefix ms clock) in one)

few_by : (t : Bool) (a b : ℕ) → a ≤ b → cond t (suc a) 0 ≤ suc b
few_by true a b h = omega arith
few_by false a b h = omega arith

later_by : (m clock later : ℕ) (t : Bool) (a b : ℕ) → leb m clock ≡ t → clock ≤ later → a ≤ b → cond t (suc a) 0 ≤ cond (leb m later) (suc b) 0
later_by m clock later true a b e h l = simp (le-leb m later (omega (arith, leb-true m clock e))) (omega arith)
later_by m clock later false a b e h l = omega arith

from_by : (t : Bool) (n a x : ℕ) → suc n ≤ cond t (suc a) 0 → (n ≤ a → n + x ≡ a) → suc n + x ≡ cond t (suc a) 0
from_by true n a x h f = omega (arith, f (omega arith))
from_by false n a x h f = absurd (omega arith)

-- a clock reaches no more marks than there are, and a later one no fewer
pub farm_few : (marks : List ℕ) (clock : ℕ) → farm_of marks clock ≤ length marks
unfolding farm_of
farm_few [] clock = omega arith
farm_few (m ∷ ms) clock = few_by (leb m clock) (farm_of ms clock) (length ms) (farm_few ms clock)

pub farm_later : (marks : List ℕ) (clock later : ℕ) → clock ≤ later → farm_of marks clock ≤ farm_of marks later
unfolding farm_of
farm_later [] clock later h = omega arith
farm_later (m ∷ ms) clock later h = later_by m clock later (leb m clock) (farm_of ms clock) (farm_of ms later) refl h (farm_later ms clock later h)

-- marks that it has reached, and those that it reaches behind them
pub farm_from : (marks : List ℕ) (n clock : ℕ) → n ≤ farm_of marks clock → n + farm_of (drop n marks) clock ≡ farm_of marks clock
unfolding farm_of
farm_from marks zero clock h = omega arith
farm_from [] (suc n) clock h = absurd (omega arith)
farm_from (m ∷ ms) (suc n) clock h = from_by (leb m clock) n (farm_of ms clock) (farm_of (drop n ms) clock) h (farm_from ms n clock)

-- n marks are behind all records that are still to come
pub record Behind (marks : List ℕ) (n : ℕ) (cs : List Change) : Type 0 where
  pub last : ℕ
  pub reached : n ≤ farm_of marks last
  pub sound : sound_from last cs ≡ true

pub behind_start : (marks : List ℕ) (cs : List Change) → sound_from 0 cs ≡ true → Behind marks 0 cs
behind_start marks cs h = record { last = 0; reached = omega arith; sound = h }

-- one record further: the marks up to its clock, and these are behind the rest
pub behind_farm : (marks : List ℕ) (n : ℕ) (c : Change) (cs : List Change) → Behind marks n (c ∷ cs) →
    n + farm_of (drop n marks) c.clock ≡ farm_of marks c.clock
behind_farm marks n c cs b = farm_from marks n c.clock (omega (arith, b.reached, farm_later marks b.last c.clock (not_fallen b.last c cs b.sound)))

pub behind_more : (marks : List ℕ) (n : ℕ) (c : Change) (cs : List Change) → Behind marks n (c ∷ cs) → Behind marks (farm_of marks c.clock) cs
behind_more marks n c cs b = record { last = c.clock; reached = omega arith; sound = sound_rest b.last c cs b.sound }

pub behind_few : (marks : List ℕ) (n : ℕ) (cs : List Change) → Behind marks n cs → n ≤ length marks
behind_few marks n cs b = omega (arith, b.reached, farm_few marks b.last)

-- the marks of a call that isn't refused
pub marks_few : (marks : List ℕ) → are_marks marks ≡ true → length marks ≤ most_farms
unfolding are_marks
marks_few marks h = leb-true _ _ (both (leb (length marks) most_farms) (rising marks) h).0
