-- What the proofs of this crate cite: the digits that `io::decimal` writes are a number's decimal, and what stands in a line after a number is put.
-- Assumes nothing.
use Prim.Native.Nat.{ℕ, zero, suc, ◌+◌, ◌-◌, ◌*◌, ◌/◌, ◌^◌, ◌<◌, ◌≤◌}
use native.Mathlib.Nat.{pow-succ', pow-le-pow_right, one-le-pow, le-div_iff_mul-le, div-lt_iff_lt-mul}
use native.Mathlib.Numerals.{add-one}
use native.Mathlib.Omega.{arith}
use mathlib.Core.Path.{◌≡◌, refl, sym, ◌∙◌, ap, subst}
use mathlib.Core.Bool.{Bool, true, false}
use mathlib.Core.List.{List, [], ◌∷◌, ◌++◌, append_assoc, append-nil}
use lib.ListN.{length, get_or, take, drop, drop_of_length-le, set}
use borrow.Rule.Slice.PartMut.{put_mid}
use lib.Seq.{paste, take-paste, take-suc-set, take-length, length-paste, drop-cons, drop-drop}
use lib.Dec.{leb}
use borrow.Author.Tests.{lt-ltb, le-ltb, leb-true, leb-false}
use Rattle.io.specs.Digits.{last_digits, IsDigitCount}
use Rattle.decimals.specs.Lines.{places_of, decimal_of, line_of}

-- a number from 10 ^ m on and below 10 ^ suc m has suc m digits
places : (j m n : ℕ) → m ≤ j → n < 10 ^ suc m → (0 < m → 10 ^ m ≤ n) → suc m ≡ places_of j n
unfolding places_of
places zero zero n h a b = refl
places (suc j) zero n h a b = simp (lt-ltb n 10 a)
places zero (suc m) n h a b = absurd (omega arith)
places (suc j) (suc m) n h a b =
    let low : 10 ^ suc m ≤ n = b (omega arith) in
    let high : n < 10 * 10 ^ suc m = rw pow-succ' at a in
    let some : 1 ≤ 10 ^ m = one-le-pow m 10 (omega arith) in
    let ten : 10 ≤ n = omega (arith, pow-succ' 10 m) in
    simp (le-ltb n 10 ten)
    (ap suc (places j m (n / 10) (omega arith) ((div-lt_iff_lt-mul {k = 10} {x = n} {y = 10 ^ suc m} (omega arith)).1 (omega arith)) (λ z. (le-div_iff_mul-le {k = 10} {x = 10 ^ m} {y = n} (omega arith)).1 (omega (arith, pow-succ' 10 m)))))

few : (k n : ℕ) (t : Bool) → leb k 10 ≡ t → n < 4294967296 → IsDigitCount 10 1 n k → k ≤ 10
few k n true e f w = leb-true _ _ e
few k n false e f w =
    let more : 10 < k = leb-false _ _ e in
    let high : 10 ^ 10 ≤ 10 ^ (k - 1) = pow-le-pow_right {n = 10} (omega arith) {i = 10} {j = k - 1} (omega arith) in
    absurd (omega (arith, w.2 (omega arith)))

-- a number of 32 bits has at most ten digits
pub at_most_ten : (k n : ℕ) → n < 4294967296 → IsDigitCount 10 1 n k → k ≤ 10
at_most_ten k n f w = few k n (leb k 10) refl f w

pub is_decimal : (k n : ℕ) → n < 4294967296 → IsDigitCount 10 1 n k → last_digits 10 k n ≡ decimal_of n
unfolding decimal_of
is_decimal k n f w =
    let ten : k ≤ 10 = at_most_ten k n f w in
    let same : suc (k - 1) ≡ k = omega arith in
    ap (λ (p : ℕ). last_digits 10 p n) (sym same ∙ places 9 (k - 1) n (omega arith) (subst (λ (p : ℕ). n < 10 ^ p) (sym same) w.1) (λ z. w.2 (omega arith)))

-- a text s put in place of the part of a line d from `at` on that has j bytes, as the part is lent and comes back
copied : (d s : List ℕ) (at j : ℕ) → j ≡ length s → put_mid at j d s ≡ paste d at s (length s)
copied d s at j e =
    ap (λ (m : ℕ). put_mid at m d s) e
    ∙ ap (λ (t : List ℕ). take at d ++ (s ++ t)) (drop-drop (length s) at d)
    ∙ sym (ap (λ (t : List ℕ). (take at d ++ t) ++ drop (at + length s) d) (take-length s) ∙ append_assoc (take at d) s (drop (at + length s) d))

-- a text s in a line d from `at` on, and the byte b after it
put_text : (d s : List ℕ) (at b k : ℕ) → length s ≡ k → at + k < length d → take (at + k + 1) (set (paste d at s (length s)) (at + k) b) ≡ take at d ++ (s ++ (b ∷ []))
put_text d s at b k e h =
    let l : List ℕ = paste d at s (length s) in
    let room : at + k < length l = omega (arith, length-paste d at s (length s) (omega arith) (omega arith)) in
    rw add-one
    (take-suc-set l (at + k) b room
    ∙ ap (λ (t : List ℕ). t ++ (b ∷ [])) (ap (λ (p : ℕ). take (at + p) l) (sym e) ∙ take-paste d at s (length s) (omega arith) (omega arith) ∙ ap (λ (t : List ℕ). take at d ++ t) (take-length s))
    ∙ append_assoc (take at d) s (b ∷ []))

-- the same of the k digits of a number, in place of the part from `at` to at + k
pub put_number : (d s : List ℕ) (at b k n : ℕ) → n < 4294967296 → k ≡ length s → IsDigitCount 10 1 n k → s ≡ last_digits 10 k n → at + 11 ≤ length d →
    take (at + k + 1) (set (put_mid at (at + k - at) d s) (at + k) b) ≡ take at d ++ (decimal_of n ++ (b ∷ []))
put_number d s at b k n f e w t h =
    let ten : k ≤ 10 = at_most_ten k n f w in
    ap (λ (m : List ℕ). take (at + k + 1) (set m (at + k) b)) (copied d s at (at + k - at) (omega (arith, e)))
    ∙ put_text d s at b k (sym e) (omega arith)
    ∙ ap (λ (m : List ℕ). take at d ++ (m ++ (b ∷ []))) (t ∙ is_decimal k n f w)

-- a text w that is t and a number with its space, and v that goes on with a line
pub line_more : (t w v : List ℕ) (n m : ℕ) (l : List ℕ) → w ≡ t ++ (decimal_of n ++ (32 ∷ [])) → v ≡ w ++ line_of (m ∷ l) → v ≡ t ++ line_of (n ∷ (m ∷ l))
unfolding line_of
line_more t w v n m l e f =
    f
    ∙ ap (λ (x : List ℕ). x ++ line_of (m ∷ l)) e
    ∙ append_assoc t (decimal_of n ++ (32 ∷ [])) (line_of (m ∷ l))
    ∙ ap (λ (x : List ℕ). t ++ x) (append_assoc (decimal_of n) (32 ∷ []) (line_of (m ∷ l)))

-- a number more in front of a line goes before it with a space
number_before : (n last : ℕ) (l : List ℕ) → line_of (n ∷ (l ++ last ∷ [])) ≡ decimal_of n ++ (32 ∷ line_of (l ++ last ∷ []))
unfolding line_of
number_before n last [] = refl
number_before n last (m ∷ l) = refl

-- a line of no numbers
pub nothing : (t l : List ℕ) → length l ≡ 0 → t ≡ t ++ line_of l
unfolding line_of
nothing t [] h = sym (append-nil t)
nothing t (n ∷ l) h = absurd (omega arith)

-- a text t and what is left of a line, from number i on, are all of it: so are w, which is t and that number, and what is left then
pub goes_on : (t w all before : List ℕ) (i last : ℕ) → i < length before → w ≡ t ++ (decimal_of (get_or before i 0) ++ (32 ∷ [])) →
    t ++ line_of (drop i before ++ last ∷ []) ≡ all → w ++ line_of (drop (i + 1) before ++ last ∷ []) ≡ all
goes_on t w all before i last h e f =
    let n = get_or before i 0 in
    let after = drop (suc i) before in
    let left = line_of (after ++ last ∷ []) in
    rw (add-one i) (ap (λ (x : List ℕ). x ++ left) e
    ∙ append_assoc t (decimal_of n ++ (32 ∷ [])) left
    ∙ ap (λ (x : List ℕ). t ++ x) (append_assoc (decimal_of n) (32 ∷ []) left ∙ sym (number_before n last after))
    ∙ rw (drop-cons before i 0 h) at f)

-- and the last number ends it
pub ends : (t w all before : List ℕ) (i last : ℕ) → length before ≤ i → w ≡ t ++ (decimal_of last ++ (10 ∷ [])) → t ++ line_of (drop i before ++ last ∷ []) ≡ all → w ≡ all
unfolding line_of
ends t w all before i last h e f = e ∙ rw (drop_of_length-le before h) at f
