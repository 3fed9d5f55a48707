-- The part of a log from a place on, lent and come back: records one behind the other.
-- Assumes nothing.
use Prim.Native.Nat.{ℕ, ◌+◌, ◌-◌, ◌≤◌}
use native.Mathlib.Omega.{arith}
use mathlib.Core.Path.{◌≡◌, ◌∙◌, refl, sym, ap}
use mathlib.Core.List.{List, [], ◌∷◌, ◌++◌, append-nil, append_assoc}
use borrow.Rule.Slice.PartMut.{mid_of, post_of, put_mid}
use lib.ListN.{length, take, drop, length-drop, length-append, drop_of_length-le}
use lib.Seq.{take_all, drop-drop, take_at, drop_at}
use Rattle.portlog.specs.Log.{written, change_of, changes_of}

pub mid_rest : (e : ℕ) (l : List ℕ) → mid_of e (length l - e) l ≡ drop e l
mid_rest e l = take_all (length l - e) (drop e l) (omega (arith, length-drop e l))

pub post_rest : (e : ℕ) (l : List ℕ) → e ≤ length l → post_of e (length l - e) l ≡ []
post_rest e l h = drop_of_length-le (drop e l) {i = length l - e} (omega (arith, length-drop e l))

-- what was written at the start of the part is written at its place in the whole
pub put_written : (e : ℕ) (l w : List ℕ) → e ≤ length l → put_mid e (length l - e) l (written (mid_of e (length l - e) l) 0 w) ≡ written l e w
put_written e l w h = rw (post_rest e l h, append-nil) (ap (λ (m : List ℕ). take e l ++ (w ++ drop (length w) m)) (mid_rest e l))

-- the same of a part that came back as ys
pub put_back : (e : ℕ) (l ys w : List ℕ) → e ≤ length l → ys ≡ written (mid_of e (length l - e) l) 0 w → put_mid e (length l - e) l ys ≡ written l e w
put_back e l ys w h g = ap (put_mid e (length l - e) l) g ∙ put_written e l w h

-- w behind v is both at once
pub written_twice : (l v w : List ℕ) → written (written l 0 v) (length v) w ≡ written l 0 (v ++ w)
written_twice l v w =
    ap (λ (t : List ℕ). t ++ (w ++ drop (length w) (drop (length v) (v ++ drop (length v) l)))) (take_at v (drop (length v) l) (length v) refl)
    ∙ ap (λ (t : List ℕ). v ++ (w ++ drop (length w) t)) (drop_at v (drop (length v) l) (length v) refl)
    ∙ ap (λ (t : List ℕ). v ++ (w ++ t)) (drop-drop (length w) (length v) l)
    ∙ ap (λ (n : ℕ). v ++ (w ++ drop n l)) (sym (length-append v w))
    ∙ sym (append_assoc v w (drop (length (v ++ w)) l))

-- the records of one port are its record
pub alone : (clock : ℕ) (l k : ℕ → ℕ) (p : ℕ) → change_of clock l k p ≡ changes_of clock l k (p ∷ [])
unfolding changes_of
alone clock l k p = sym (append-nil (change_of clock l k p))

pub count : (clock : ℕ) (l k : ℕ → ℕ) (p : ℕ) (ps : List ℕ) → length (changes_of clock l k (p ∷ ps)) ≡ length (change_of clock l k p) + length (changes_of clock l k ps)
unfolding changes_of
count clock l k p ps = length-append (change_of clock l k p) (changes_of clock l k ps)

-- a log g with room for the records of port p and of the ports ps; m is g with the first of them, which is n bytes
module _ (clock : ℕ) (l k : ℕ → ℕ) (p : ℕ) (ps g m : List ℕ) (n : ℕ) (room : length (changes_of clock l k (p ∷ ps)) ≤ length g)
    (e : m ≡ written g 0 (change_of clock l k p)) (f : n ≡ length (change_of clock l k p)) where
  same : length m ≡ length g
  same = ap length e ∙ simp (length-append, length-drop) (omega (arith, count clock l k p ps))

  starts : n ≤ length m
  starts = omega (arith, same, count clock l k p ps)

  pub rest_fits : length (changes_of clock l k ps) ≤ length (mid_of n (length m - n) m)
  rest_fits = omega (arith, same, count clock l k p ps, ap length (mid_rest n m), length-drop n m)

  pub joined : (ys : List ℕ) → ys ≡ written (mid_of n (length m - n) m) 0 (changes_of clock l k ps) → put_mid n (length m - n) m ys ≡ written g 0 (changes_of clock l k (p ∷ ps))
  unfolding changes_of
  joined ys h =
      put_back n m ys (changes_of clock l k ps) starts h
      ∙ ap (λ (t : List ℕ). written t n (changes_of clock l k ps)) e
      ∙ ap (λ (t : ℕ). written (written g 0 (change_of clock l k p)) t (changes_of clock l k ps)) f
      ∙ written_twice g (change_of clock l k p) (changes_of clock l k ps)
