-- Laws of the parts that a call's buffers are cut into: lengths one behind another, a part lent and come back, and equal parts.
-- Assumes nothing.
use Prim.Native.Nat.{ℕ, zero, suc, ◌+◌, ◌*◌, ◌-◌, ◌≤◌, ◌<◌}
use native.Mathlib.Nat.{zero-add, mul-zero, mul-suc, mul-le-mul_left, div-mul-le_self, le_trans}
use native.Mathlib.Numerals.{add-one}
use native.Mathlib.Omega.{arith}
use mathlib.Core.Path.{◌≡◌, ◌∙◌, refl, sym, ap, ap₂}
use mathlib.Core.Bool.{false}
use mathlib.Core.List.{List, [], ◌∷◌, ◌++◌, append_assoc}
use mathlib.Core.Logic.{◌⊎◌, ⊎_elim}
use borrow.Rule.Slice.PartMut.{mid_of, post_of, put_mid, same_len_mid}
use borrow.Author.Tests.{eq-eqb, ne_eqb}
use lib.Dec.{eqb}
use lib.ListN.{length, get_or, take, drop, length-append, length-drop, take-append-drop, drop_of_length-le}
use lib.Seq.{take_all, length-take-le, take_at, drop_at, take-append-le, drop-append-le, drop-append-add, drop-drop}
use Rattle.parts.specs.Parts.{together, part_of, share_of, joined}

-- the lengths up to a place and those from it on
pub together_split : (i : ℕ) (lens : List ℕ) → together lens ≡ together (take i lens) + together (drop i lens)
unfolding together
together_split zero lens = sym (zero-add (together lens))
together_split (suc i) [] = refl
together_split (suc i) (x ∷ xs) = omega (arith, together_split i xs)

-- one length more
pub together_next : (i : ℕ) (lens : List ℕ) → together (take (suc i) lens) ≡ together (take i lens) + get_or lens i 0
unfolding together
together_next zero [] = refl
together_next (suc i) [] = refl
together_next zero (x ∷ xs) = omega arith
together_next (suc i) (x ∷ xs) = omega (arith, together_next i xs)

pub together_more : (i : ℕ) (lens : List ℕ) → together (take (i + 1) lens) ≡ together (take i lens) + get_or lens i 0
together_more i lens = rw add-one (together_next i lens)

-- a trace lies within the buffer of all of them
pub trace_fits : (i : ℕ) (lens : List ℕ) → i < length lens → together (take i lens) + get_or lens i 0 ≤ together lens
trace_fits i lens h = omega (arith, together_next i lens, together_split (suc i) lens)

-- lengths that pass the bytes do not add up to them, whatever follows
pub too_long : (i bytes : ℕ) (lens : List ℕ) → bytes < together (take i lens) + get_or lens i 0 → false ≡ eqb (together lens) bytes
too_long i bytes lens h =
    sym (ne_eqb (together lens) bytes (λ z. omega (arith, together_next i lens, together_split (suc i) lens)))

-- a sum agrees where nothing is left of what it is taken off
left_over : (t l b : ℕ) → t + l ≡ b → eqb l 0 ≡ eqb t b
left_over t zero b e = sym (eq-eqb t b (omega arith))
left_over t (suc l) b e = ne_eqb (suc l) 0 (λ z. omega arith) ∙ sym (ne_eqb t b (λ z. omega arith))

pub all_taken : (i left bytes : ℕ) (lens : List ℕ) → together (take i lens) + left ≡ bytes → length lens ≤ i → eqb left 0 ≡ eqb (together lens) bytes
all_taken i left bytes lens e h = left_over (together lens) left bytes (rw take_all at e)

-- a part has the length that it was cut to
pub length_part : (a w : ℕ) (s : List ℕ) → a + w ≤ length s → length (part_of a w s) ≡ w
length_part a w s h = length-take-le w (drop a s) (omega (arith, length-drop a s))

-- a part that is lent from a up to a + w, and how it comes back
width : (a w : ℕ) → a + w - a ≡ w
width a w = omega arith

pub width_part : (a w : ℕ) (s : List ℕ) → mid_of a (a + w - a) s ≡ part_of a w s
width_part a w s = ap (λ (k : ℕ). part_of a k s) (width a w)

pub width_back : (a w : ℕ) (s y : List ℕ) → put_mid a (a + w - a) s y ≡ put_mid a w s y
width_back a w s y = ap (λ (k : ℕ). put_mid a k s y) (width a w)

-- y in the place of w bytes from a on: that part is y, what lies beside it stays, and so does the length
pub part_back : (a w : ℕ) (s y : List ℕ) → length y ≡ w → a + w ≤ length s → part_of a w (put_mid a w s y) ≡ y
part_back a w s y e h =
    ap (take w) (drop_at (take a s) (y ++ post_of a w s) a (length-take-le a s (omega arith))) ∙ take_at y (post_of a w s) w e

pub long_back : (a w : ℕ) (s y : List ℕ) → length y ≡ w → a + w ≤ length s → length (put_mid a w s y) ≡ length s
long_back a w s y e h = same_len_mid a w s y (e ∙ sym (length_part a w s h))

pub rest_beside : (a w c : ℕ) (s y : List ℕ) → length y ≡ w → a + w ≤ c → drop c (put_mid a w s y) ≡ drop c s
rest_beside zero w c s y e h =
    ap (λ (k : ℕ). drop k (y ++ drop w s)) (let g : c ≡ length y + (c - w) = omega arith in g)
    ∙ drop-append-add y (drop w s) (c - w) ∙ drop-drop (c - w) w s ∙ ap (λ (k : ℕ). drop k s) (let g : w + (c - w) ≡ c = omega arith in g)
rest_beside (suc a) w zero s y e h = absurd (omega arith)
rest_beside (suc a) w (suc c) [] y e h =
    drop_of_length-le (y ++ drop w []) {i = suc c} (omega (arith, length-append y (drop w []), length-drop {A = ℕ} w []))
rest_beside (suc a) w (suc c) (x ∷ s) y e h = rest_beside a w c s y e (omega arith)

-- what lies in the front of two lists is the front's
front : (b v : ℕ) (p r : List ℕ) → b + v ≤ length p → part_of b v (p ++ r) ≡ part_of b v p
front b v p r h =
    ap (take v) (drop-append-le b p r (omega arith)) ∙ take-append-le v (drop b p) r (omega (arith, length-drop b p))

before : (a w b v : ℕ) (s y : List ℕ) → a ≤ length s → b + v ≤ a → part_of b v (put_mid a w s y) ≡ part_of b v s
before a w b v s y g h =
    let l : b + v ≤ length (take a s) = omega (arith, length-take-le a s g) in
    front b v (take a s) (y ++ post_of a w s) l ∙ sym (front b v (take a s) (drop a s) l) ∙ ap (part_of b v) (take-append-drop a s)

pub part_beside : (a w b v : ℕ) (s y : List ℕ) → length y ≡ w → a + w ≤ length s → (b + v ≤ a) ⊎ (a + w ≤ b) → part_of b v (put_mid a w s y) ≡ part_of b v s
part_beside a w b v s y e h side =
    ⊎_elim (λ g. before a w b v s y (omega arith) g) (λ g. ap (take v) (rest_beside a w b s y e g)) side

-- equal parts and what is left over make up the whole
pub parts_joined : (w n : ℕ) (s : List ℕ) → w * n ≤ length s → joined n (λ j. part_of (w * j) w s) ++ drop (w * n) s ≡ s
unfolding joined
parts_joined w zero s h = ap (λ (k : ℕ). drop k s) (mul-zero w)
parts_joined w (suc n) s h =
    append_assoc (joined n (λ j. part_of (w * j) w s)) (part_of (w * n) w s) (drop (w * suc n) s)
    ∙ ap (λ (r : List ℕ). joined n (λ j. part_of (w * j) w s) ++ (part_of (w * n) w s ++ r))
    (ap (λ (k : ℕ). drop k s) (mul-suc w n) ∙ sym (drop-drop w (w * n) s))
    ∙ ap (λ (r : List ℕ). joined n (λ j. part_of (w * j) w s) ++ r) (take-append-drop w (drop (w * n) s))
    ∙ parts_joined w n s (omega (arith, mul-suc w n))

pub joined_alike : (n : ℕ) (f g : ℕ → List ℕ) → ((j : ℕ) → j < n → f j ≡ g j) → joined n f ≡ joined n g
unfolding joined
joined_alike zero f g h = refl
joined_alike (suc n) f g h = ap₂ (λ (x y : List ℕ). x ++ y) (joined_alike n f g (λ j l. h j (omega arith))) (h n (omega arith))

-- part i of n, each of w bytes, lies within all of them
pub part_within : (w n i : ℕ) → i < n → w * i + w ≤ w * n
part_within w n i h = omega (arith, mul-suc w i, mul-le-mul_left w h)

-- and each head's share within the log
pub shares_fit : (g n : ℕ) → share_of g n * n ≤ g
shares_fit g n = div-mul-le_self g n

pub share_fits : (g n i : ℕ) → 1 ≤ n → i < n → share_of g n * i + share_of g n ≤ g
share_fits g n i l h = le_trans (part_within (share_of g n) n i h) (shares_fit g n)
