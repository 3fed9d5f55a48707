-- The output buffer along the pass that writes: the tidy form's first bytes, and the rest as it was. Assumes nothing.
use Prim.Native.Nat.{ℕ, ◌+◌, ◌≤◌}
use native.Mathlib.Omega.{arith}
use mathlib.Core.Path.{◌≡◌, ◌∙◌, refl, sym, ap}
use mathlib.Core.List.{List, [], ◌∷◌, ◌++◌}
use lib.ListN.{length, take, drop, length-append, length-drop}
use lib.Seq.{sets, sets-eq, length-take-le, take_at, drop_at, take-add, drop-drop, take-append_seam, take-length}
use Rattle.record.proofs.Records.{Bytes}
use Rattle.tidy.specs.Tidy.{tidy_of}
use Rattle.tidy.specs.Passage.{added_of, further_of}
use Rattle.tidy.specs.declared.passage.Passage.{Passage}
use Rattle.tidy.proofs.Along.{Along, ahead, come, room}

empty : (l : List ℕ) → length l ≤ 0 → l ≡ []
empty [] h = refl
empty (x ∷ l) h = absurd (omega arith)

module _ (s : List ℕ) (y : Bytes s) (p q : Passage) (further : q ≡ further_of s p) where
  pub grown : q.put ≡ p.put + length (added_of s p)
  grown = ap (λ (z : Passage). z.put) further ∙ (come s y p).1

  -- a record that adds no bytes
  pub unchanged : (l : List ℕ) → q.put ≤ p.put → l ≡ sets l p.put (added_of s p)
  unchanged l h = ap (sets l p.put) (sym (empty (added_of s p) (omega (arith, grown))))

-- n bytes of the form stand at the start of the buffer that was `before`
abbrev pub begun : List ℕ → List ℕ → ℕ → List ℕ
begun form before n = take n form ++ drop n before

pub begun_first : (form before : List ℕ) → before ≡ begun form before 0
begun_first form before = refl

pub begun_length : (form before : List ℕ) (n : ℕ) → n ≤ length form → length form ≤ length before → length (begun form before n) ≡ length before
begun_length form before n h k = omega (arith, length-append (take n form) (drop n before), length-take-le n form h, length-drop n before)

pub begun_whole : (form before : List ℕ) (n : ℕ) → n ≡ length form → begun form before n ≡ form ++ drop (length form) before
begun_whole form before n e = ap (begun form before) e ∙ ap (λ (l : List ℕ). l ++ drop (length form) before) (take-length form)

module _ (s : List ℕ) (y : Bytes s) (p : Passage) (a : Along s p) (before : List ℕ) (fits : length (tidy_of s) ≤ length before) where
  abbrev form : List ℕ
  form = tidy_of s

  abbrev k : ℕ
  k = length (added_of s p)

  more : take p.put form ++ added_of s p ≡ take (p.put + k) form
  more =
      ap (λ (l : List ℕ). take p.put form ++ l)
      (sym (take-append_seam (added_of s p) (ahead s (further_of s p))) ∙ ap (take k) (sym (a.left ∙ (come s y p).0))) ∙
      sym (take-add p.put k form)

  -- what the next record adds goes on with it
  pub begun_more : (q : Passage) → q ≡ further_of s p → sets (begun form before p.put) p.put (added_of s p) ≡ begun form before q.put
  begun_more q e =
      let n = p.put in
      let long = length-take-le n form a.written in
      sets-eq (added_of s p) (begun form before n) n (omega (arith, room s y p a, begun_length form before n a.written fits)) ∙
      (λ i.
      take_at (take n form) (drop n before) n long i ++ added_of s p ++
      (sym (drop-drop k n (begun form before n)) ∙ ap (drop k) (drop_at (take n form) (drop n before) n long) ∙ drop-drop k n before) i) ∙
      ap (λ (l : List ℕ). l ++ drop (n + k) before) more ∙ ap (begun form before) (sym (grown s y p q e))
