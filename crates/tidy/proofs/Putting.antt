-- Bytes put into a buffer one after the other: a run of them is the whole put at once. Assumes nothing.
use Prim.Native.Nat.{ℕ, zero, suc, ◌+◌, ◌<◌}
use native.Mathlib.Numerals.{add-one, towards_suc}
use native.Mathlib.Omega.{arith}
use mathlib.Core.Path.{◌≡◌, ◌∙◌, refl, sym, ap}
use mathlib.Core.List.{List, [], ◌∷◌, ◌++◌, append_assoc}
use borrow.Author.Tests.{eq-eqb, ne_eqb}
use lib.ListN.{length, set, get_or, take, drop, length-drop}
use lib.Seq.{sets, take-suc, length-take-le}
use Rattle.std.proofs.lemmas.List.{get_or-drop}
use Rattle.words.specs.Words.{bytes_of}
use Rattle.tidy.specs.Tidy.{longest_wait, wait_bytes, full_wait_bytes}

-- one list behind another
pub sets_append : (xs l : List ℕ) (i : ℕ) (ys : List ℕ) → sets l i (xs ++ ys) ≡ sets (sets l i xs) (i + length xs) ys
sets_append [] l i ys = ap (λ (k : ℕ). sets l k ys) (let z : i ≡ i + 0 = omega arith in z)
sets_append (x ∷ xs) l i ys =
    sets_append xs (set l i x) (suc i) ys ∙
    ap (λ (k : ℕ). sets (sets (set l i x) (suc i) xs) k ys) (let z : suc i + length xs ≡ i + suc (length xs) = omega arith in z)

-- a map without and with a wait
pub put_no_wait : (l : List ℕ) (at low w : ℕ) → w ≡ 0 → set (set l at low) (at + 1) 0 ≡ sets l at (low ∷ wait_bytes w)
put_no_wait l at low w h = rw (eq-eqb w 0 h) (simp towards_suc)

pub put_wait : (l : List ℕ) (at low w : ℕ) → (w ≡ 0 → ⊥) → sets (set (set l at low) (at + 1) 1) (at + 2) (bytes_of 2 w) ≡ sets l at (low ∷ wait_bytes w)
put_wait l at low w h = rw (ne_eqb w 0 h) (simp towards_suc)

-- one byte more of a part of t, copied to a buffer d from `at` on
pub part_more : (d t : List ℕ) (at from i : ℕ) → from + i < length t →
    set (sets d at (take i (drop from t))) (at + i) (get_or t (from + i) 0) ≡ sets d at (take (i + 1) (drop from t))
part_more d t at from i h =
    let s = drop from t in
    let inside : i < length s = omega (arith, length-drop from t) in
    let byte : get_or s i 0 ≡ get_or t (from + i) 0 = get_or-drop from t i 0 in
    let more : take (i + 1) s ≡ take i s ++ (get_or s i 0 ∷ []) = ap (λ (k : ℕ). take k s) (add-one i) ∙ take-suc s i 0 inside in
    let long : length (take i s) ≡ i = length-take-le i s (omega arith) in
    sym (ap (sets d at) more ∙ sets_append (take i s) d at (get_or s i 0 ∷ []) ∙
    ap (λ (k : ℕ). set (sets d at (take i s)) (at + k) (get_or s i 0)) long ∙ ap (set (sets d at (take i s)) (at + i)) byte)

-- one wait-only record more, behind the others
behind : (n : ℕ) → full_wait_bytes n ++ (0 ∷ wait_bytes longest_wait) ≡ full_wait_bytes (suc n)
behind zero = refl
behind (suc n) =
    append_assoc (0 ∷ wait_bytes longest_wait) (full_wait_bytes n) (0 ∷ wait_bytes longest_wait) ∙
    ap (λ (l : List ℕ). (0 ∷ wait_bytes longest_wait) ++ l) (behind n)

pub one_more : (l : List ℕ) (at n : ℕ) →
    sets (sets l at (full_wait_bytes n)) (at + length (full_wait_bytes n)) (0 ∷ wait_bytes longest_wait) ≡ sets l at (full_wait_bytes (n + 1))
one_more l at n =
    sym (sets_append (full_wait_bytes n) l at (0 ∷ wait_bytes longest_wait)) ∙
    ap (sets l at) (behind n ∙ ap full_wait_bytes (let z : suc n ≡ n + 1 = omega arith in z))
