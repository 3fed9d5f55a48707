-- What the proof of `marks::trimmed_length` cites: what stands up to the last byte that is no white space is `trimmed`. Assumes nothing.
use Prim.Native.Nat.{ℕ, zero, suc, ◌+◌, ◌<◌}
use native.Mathlib.Numerals.{add-one}
use native.Mathlib.Omega.{arith}
use mathlib.Core.Path.{◌≡◌, refl, ap}
use mathlib.Core.Bool.{true, false, and-false}
use mathlib.Core.List.{List, [], ◌∷◌}
use lib.ListN.{length, get_or, take, drop, length-drop}
use lib.Seq.{get_or-drop}
use Rattle.text.specs.Budget.{is_white, is_blank}
use Rattle.marks.specs.Order.{trimmed}

-- a byte that is no white space makes a text no blank one
not_blank : (l : List ℕ) (k : ℕ) → k < length l → is_white (get_or l k 0) ≡ false → is_blank l ≡ false
unfolding is_blank
not_blank [] k h e = absurd (omega arith)
not_blank (b ∷ l) zero h e = simp e
not_blank (b ∷ l) (suc k) h e = rw (not_blank l k (omega arith) e) (and-false (is_white b))

none_left : (l : List ℕ) → is_blank l ≡ true → [] ≡ trimmed l
unfolding trimmed
none_left [] b = refl
none_left (x ∷ l) b = simp b

-- what stands up to the last byte that is no white space
trimmed_behind : (l : List ℕ) (k : ℕ) → k < length l → is_blank (drop (suc k) l) ≡ true → is_white (get_or l k 0) ≡ false → take (suc k) l ≡ trimmed l
unfolding trimmed
trimmed_behind [] k h b e = absurd (omega arith)
trimmed_behind (x ∷ l) zero h b e = rw (not_blank (x ∷ l) zero h e) (ap (λ (t : List ℕ). x ∷ t) (none_left l b))
trimmed_behind (x ∷ l) (suc k) h b e = rw (not_blank (x ∷ l) (suc k) h e) (ap (λ (t : List ℕ). x ∷ t) (trimmed_behind l k (omega arith) b e))

-- a text of white space alone, byte by byte
blank : (l : List ℕ) → ((k : ℕ) → k < length l → is_white (get_or l k 0) ≡ true) → is_blank l ≡ true
unfolding is_blank
blank [] h = refl
blank (b ∷ l) h =
    let first : is_white b ≡ true = h 0 (omega arith) in
    simp (first, blank l (λ k g. h (suc k) (omega arith)))

-- nothing else, or white space alone behind the last byte that is none
pub trimmed_none : (l : List ℕ) → ((k : ℕ) → k < length l → is_white (get_or l k 0) ≡ true) → [] ≡ trimmed l
trimmed_none l h = none_left l (blank l h)

pub trimmed_last : (l : List ℕ) (last : ℕ) → last < length l → is_white (get_or l last 0) ≡ false →
    ((k : ℕ) → last < k → k < length l → is_white (get_or l k 0) ≡ true) → take (last + 1) l ≡ trimmed l
trimmed_last l last g e h =
    rw (add-one last) (trimmed_behind l last g (blank (drop (suc last) l) (λ k i. rw get_or-drop (h (suc last + k) (omega arith) (omega (arith, length-drop (suc last) l))))) e)
