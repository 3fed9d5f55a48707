-- The table of first bytes: what antt computes of its 256 entries, with the second byte left open.
-- Assumes nothing.
use Prim.Native.Nat.{ℕ, ◌<◌}
use native.Mathlib.Omega.{arith}
use mathlib.Core.Path.{◌≡◌, refl, ap, sym, subst, ◌∙◌}
use mathlib.Core.Bool.{Bool, true, false, cond, not, false≢true}
use mathlib.Core.List.{List, [], ◌∷◌}
use lib.Dec.{eqb, ltb}
use lib.ListN.{get_or}
use borrow.Author.Tests.{eqb-false, ltb-true}
use Rattle.codes.specs.Decode.{info_of, member}
use Rattle.codes.specs.Entry.{Marking, mark, marked}
use Rattle.codes.proofs.Ranges.{within, picked}

unfoldable pub firsts : List ℕ
firsts = 0 ∷ 9 ∷ 9 ∷ 9 ∷ 9 ∷ 9 ∷ 9 ∷ 9 ∷ 9 ∷ 9 ∷ 9 ∷ 9 ∷ 9 ∷ 9 ∷ 9 ∷ 9 ∷ 0 ∷ 9 ∷ 9 ∷ 9 ∷ 9 ∷ 9 ∷ 9 ∷ 9 ∷ 9 ∷ 9 ∷ 9 ∷ 9 ∷ 9 ∷ 9 ∷ 9 ∷ 9 ∷ 13 ∷ 13 ∷ 13 ∷ 13 ∷ 13 ∷ 13 ∷ 13 ∷ 13 ∷ 5 ∷ 5 ∷ 5 ∷ 5 ∷ 5 ∷ 5 ∷ 5 ∷ 5 ∷ 13 ∷ 13 ∷ 13 ∷ 13 ∷ 13 ∷ 13 ∷ 13 ∷ 13 ∷ 5 ∷ 5 ∷ 5 ∷ 5 ∷ 5 ∷ 5 ∷ 5 ∷ 5 ∷ 13 ∷ 13 ∷ 13 ∷ 13 ∷ 13 ∷ 13 ∷ 13 ∷ 13 ∷ 5 ∷ 5 ∷ 5 ∷ 5 ∷ 5 ∷ 5 ∷ 5 ∷ 5 ∷ 13 ∷ 13 ∷ 13 ∷ 13 ∷ 13 ∷ 13 ∷ 13 ∷ 13 ∷ 5 ∷ 5 ∷ 5 ∷ 5 ∷ 5 ∷ 5 ∷ 5 ∷ 5 ∷ 13 ∷ 13 ∷ 13 ∷ 13 ∷ 13 ∷ 13 ∷ 13 ∷ 13 ∷ 0 ∷ 5 ∷ 5 ∷ 5 ∷ 5 ∷ 5 ∷ 5 ∷ 5 ∷ 13 ∷ 13 ∷ 13 ∷ 13 ∷ 13 ∷ 13 ∷ 13 ∷ 13 ∷ 0 ∷ 10 ∷ 9 ∷ 9 ∷ 0 ∷ 5 ∷ 5 ∷ 5 ∷ 0 ∷ 10 ∷ 5 ∷ 10 ∷ 5 ∷ 10 ∷ 5 ∷ 10 ∷ 5 ∷ 10 ∷ 9 ∷ 9 ∷ 10 ∷ 5 ∷ 5 ∷ 5 ∷ 10 ∷ 10 ∷ 10 ∷ 10 ∷ 10 ∷ 10 ∷ 10 ∷ 10 ∷ 10 ∷ 10 ∷ 10 ∷ 10 ∷ 10 ∷ 10 ∷ 10 ∷ 10 ∷ 5 ∷ 5 ∷ 5 ∷ 5 ∷ 5 ∷ 5 ∷ 5 ∷ 5 ∷ 5 ∷ 5 ∷ 5 ∷ 5 ∷ 5 ∷ 5 ∷ 5 ∷ 5 ∷ 5 ∷ 5 ∷ 5 ∷ 5 ∷ 5 ∷ 5 ∷ 5 ∷ 5 ∷ 5 ∷ 5 ∷ 5 ∷ 5 ∷ 5 ∷ 5 ∷ 5 ∷ 5 ∷ 10 ∷ 10 ∷ 10 ∷ 10 ∷ 5 ∷ 13 ∷ 0 ∷ 0 ∷ 13 ∷ 10 ∷ 10 ∷ 0 ∷ 13 ∷ 10 ∷ 10 ∷ 10 ∷ 10 ∷ 10 ∷ 10 ∷ 10 ∷ 0 ∷ 13 ∷ 5 ∷ 5 ∷ 0 ∷ 32 ∷ 0 ∷ 32 ∷ 32 ∷ 32 ∷ 0 ∷ 0 ∷ 10 ∷ 10 ∷ 10 ∷ 10 ∷ 0 ∷ 13 ∷ 5 ∷ 5 ∷ 14 ∷ 14 ∷ 14 ∷ 14 ∷ 14 ∷ 14 ∷ 14 ∷ 14 ∷ 10 ∷ 10 ∷ 10 ∷ 10 ∷ 32 ∷ 32 ∷ 32 ∷ 32 ∷ 32 ∷ 32 ∷ 0 ∷ 0 ∷ 32 ∷ 32 ∷ 32 ∷ 32 ∷ []

-- a second byte at which a marked code reads otherwise than at 0
other : ℕ → ℕ
other x = cond (eqb x 0xD9) 8 (cond (eqb x 0xDB) 0x80 (cond (eqb x 0xDC) 2 (cond (eqb x 0xDD) 1 0x50)))

unmarked : (b : Bool) (e i : ℕ) → e ≡ cond b mark i → b ≡ false → i ≡ e
unmarked true e i q h = absurd (false≢true (sym h))
unmarked false e i q h = sym q

module _ (x : ℕ) (h : x < 256) where
  -- an entry is the length and cycles of its first byte, whatever the second, or the mark
  pub rule : (y : ℕ) → get_or firsts x 0 ≡ cond (member x marked) mark (info_of x y)
  unfolding firsts info_of
  rule y = within (λ x. get_or firsts x 0) (λ x. cond (member x marked) mark (info_of x y)) 0 256 refl x (omega arith) (omega arith)

  marks : ltb (get_or firsts x 0) mark ≡ not (member x marked)
  unfolding firsts
  marks = within (λ x. ltb (get_or firsts x 0) mark) (λ x. not (member x marked)) 0 256 refl x (omega arith) (omega arith)

  -- a first byte that is not marked: its entry is the code's, whatever the second byte
  pub plain : (y : ℕ) → member x marked ≡ false → info_of x y ≡ get_or firsts x 0
  plain y m = unmarked (member x marked) (get_or firsts x 0) (info_of x y) (rule y) m

  differs : member x marked ≡ true → eqb (info_of x (other x)) (info_of x 0) ≡ false
  unfolding info_of other
  differs m = picked (λ x. member x marked) (λ x. eqb (info_of x (other x)) (info_of x 0)) (λ x. false) 0 256 refl x m (omega arith) (omega arith)

  other_byte : ltb (other x) 256 ≡ true
  unfolding other
  other_byte = within (λ x. ltb (other x) 256) (λ x. true) 0 256 refl x (omega arith) (omega arith)

pub marking : Marking
marking =
    record {
      plain = λ x y h m. plain x h y m ∙ sym (plain x h 0 m);
      apart = λ x h m. subst (λ n. n < mark) (sym (plain x h 0 m)) (ltb-true (get_or firsts x 0) mark (marks x h ∙ ap not m));
      matters = λ x h m. (other x, ltb-true (other x) 256 (other_byte x h), eqb-false (info_of x (other x)) (info_of x 0) (differs x h m));
    }
