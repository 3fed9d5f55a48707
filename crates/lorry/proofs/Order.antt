-- Whose turns a call gives: never more than are stated, fewer only once every head has stopped, and within n turns one to each of n heads that hasn't. For any
-- turn and any heads: no machine is looked at.
-- Assumes nothing.
use Prim.Native.Nat.{ℕ, zero, suc, ◌+◌, ◌-◌, ◌≤◌, ◌<◌}
use native.Mathlib.Omega.{arith}
use mathlib.Core.Path.{◌≡◌, ◌∙◌, refl, sym, ap, subst, subst⁻¹}
use mathlib.Core.Bool.{Bool, true, false, cond}
use mathlib.Core.List.Memᴰ
use mathlib.Core.List.{List, [], ◌∷◌}
use mathlib.Core.Logic.{⊎_elim}
use borrow.Author.Tests.{eq-eqb, ne_eqb, eqb-true, eqb-false, ltb-true, ltb-false, lt-ltb, le-ltb}
use lib.Dec.{eqb, ltb}
use lib.ListN.{take, drop}
use Rattle.parts.specs.Parts.{most_heads}
use Rattle.heads.specs.Heads.{Head, Heads, goes, after, turn_of, Next, none, head, next_from, Turns, first, turns_from}
use Rattle.lorry.specs.Lorry.{Among, Given, WaitsAtMost}

no_true : true ≡ false → ⊥
no_true e = let z : ◌≡◌ {A = ℕ} 0 1 = cc in omega arith

-- a list's longer front has what a shorter one has
among_more : (i a b : ℕ) (l : List ℕ) → a ≤ b → Among i (take a l) → Among i (take b l)
among_more i zero b l h m = absurd (elim m [ ])
among_more i (suc a) zero l h m = absurd (omega arith)
among_more i (suc a) (suc b) [] h m = m
among_more i (suc a) (suc b) (x ∷ xs) h m = ⊎_elim (λ e. Memᴰ.head e) (λ k. Memᴰ.tail (among_more i a b xs (omega arith) k)) (Memᴰ.cases_cons m)

-- how many heads further on head i is, going round from head p
abbrev gap : ℕ → ℕ → ℕ → ℕ
gap n p i = cond (ltb i p) (n - p + i) (i - p)

gap_back : (n p i : ℕ) → i < p → gap n p i ≡ n - p + i
gap_back n p i h = ap (λ (b : Bool). cond b (n - p + i) (i - p)) (lt-ltb i p h)

gap_on : (n p i : ℕ) → p ≤ i → gap n p i ≡ i - p
gap_on n p i h = ap (λ (b : Bool). cond b (n - p + i) (i - p)) (le-ltb i p h)

gap_less : (n p i : ℕ) → p < n → i < n → gap n p i < n
gap_less n p i h l = by (ltb i p) refl
  where
    by : (b : Bool) → ltb i p ≡ b → cond b (n - p + i) (i - p) < n
    by true e = omega (arith, ltb-true i p e)
    by false e = omega (arith, ltb-false i p e)

after_less : (n p : ℕ) → p < n → after n p < n
after_less n p h = by (ltb (p + 1) n) refl
  where
    by : (b : Bool) → ltb (p + 1) n ≡ b → cond b (p + 1) 0 < n
    by true e = ltb-true (p + 1) n e
    by false e = omega arith

-- from the next place it is one less
gap_next : (n p i : ℕ) → p < n → i < n → (p ≡ i → ⊥) → gap n p i ≡ suc (gap n (after n p) i)
gap_next n p i h l other = by (ltb (p + 1) n) refl (ltb i p) refl
  where
    by : (b : Bool) → ltb (p + 1) n ≡ b → (d : Bool) → ltb i p ≡ d → cond d (n - p + i) (i - p) ≡ suc (gap n (cond b (p + 1) 0) i)
    by true e true g =
        let k = gap_back n (p + 1) i (omega (arith, ltb-true i p g)) in omega (arith, k, ltb-true (p + 1) n e, ltb-true i p g)
    by true e false g =
        let k = gap_on n (p + 1) i (omega (arith, ltb-false i p g, other)) in omega (arith, k, ltb-false i p g, other)
    by false e true g = let k = gap_on n 0 i (omega arith) in omega (arith, k, ltb-false (p + 1) n e, ltb-true i p g)
    by false e false g = absurd (omega (arith, ltb-false (p + 1) n e, ltb-false i p g, other))

-- a head found is one head, and not none
same_head : (p j : ℕ) → head p ≡ head j → p ≡ j
same_head p j z = cc

head_none : (j : ℕ) → head j ≡ none → ⊥
head_none j e = let z : ◌≡◌ {A = ℕ} 0 1 = cc in omega arith

module _ (n : ℕ) where
  -- what is seen from place p on, where head i hasn't stopped and is among the heads looked at: a head no further on than i
  record Seen (hs : Heads) (p look i : ℕ) : Type 0 where
    pub which : ℕ
    pub is : next_from n hs p look ≡ head which
    pub inside : which < n
    pub near : gap n which i ≤ gap n p i

  seen_by : (hs : Heads) (p look i : ℕ) (b : Bool) → goes (hs p) ≡ b → p < n → i < n → gap n p i < suc look → goes (hs i) ≡ true →
      (gap n (after n p) i < look → Seen hs (after n p) look i) → Seen hs p (suc look) i
  unfolding next_from
  seen_by hs p look i true e h l m g ih =
      record { which = p; is = ap (λ (b : Bool). cond b (head p) (next_from n hs (after n p) look)) e; inside = h; near = omega arith }
  seen_by hs p look i false e h l m g ih =
      let k = gap_next n p i h l (λ z. no_true (sym g ∙ ap (λ (x : ℕ). goes (hs x)) (sym z) ∙ e)) in
      let s = ih (omega (arith, k, m)) in
      record {
        which = s.which;
        is = ap (λ (b : Bool). cond b (head p) (next_from n hs (after n p) look)) e ∙ s.is;
        inside = s.inside;
        near = omega (arith, k, s.near);
      }

  seen : (hs : Heads) (look p i : ℕ) → p < n → i < n → gap n p i < look → goes (hs i) ≡ true → Seen hs p look i
  seen hs zero p i h l m g = absurd (omega arith)
  seen hs (suc look) p i h l m g =
      seen_by hs p look i (goes (hs p)) refl h l m g (λ k. seen hs look (after n p) i (after_less n p h) l k g)

  -- where none is found every head has stopped
  all_stopped : (hs : Heads) (p i : ℕ) → p < n → i < n → next_from n hs p n ≡ none → goes (hs i) ≡ false
  all_stopped hs p i h l e = by (goes (hs i)) refl
    where
      by : (b : Bool) → goes (hs i) ≡ b → b ≡ false
      by true g = let s = seen hs n p i h l (gap_less n p i h l) g in absurd (head_none s.which (sym s.is ∙ e))
      by false g = refl

  -- and one that is found is one of the n
  found_inside : (hs : Heads) (look p j : ℕ) → p < n → next_from n hs p look ≡ head j → j < n
  unfolding next_from
  found_inside hs zero p j h e = absurd (head_none j (sym e))
  found_inside hs (suc look) p j h e = by (goes (hs p)) e (found_inside hs look (after n p) j (after_less n p h))
    where
      by : (b : Bool) → cond b (head p) (next_from n hs (after n p) look) ≡ head j → (next_from n hs (after n p) look ≡ head j → j < n) → j < n
      by true z ih = subst (λ (x : ℕ). x < n) (same_head p j z) h
      by false z ih = ih z

  -- and hasn't stopped
  pub found_goes : (hs : Heads) (look p j : ℕ) → next_from n hs p look ≡ head j → goes (hs j) ≡ true
  unfolding next_from
  found_goes hs zero p j e = absurd (head_none j (sym e))
  found_goes hs (suc look) p j e = by (goes (hs p)) refl e (found_goes hs look (after n p) j)
    where
      by : (b : Bool) → goes (hs p) ≡ b → cond b (head p) (next_from n hs (after n p) look) ≡ head j → (next_from n hs (after n p) look ≡ head j → goes (hs j) ≡ true) →
          goes (hs j) ≡ true
      by true g z ih = ap (λ (x : ℕ). goes (hs x)) (sym (same_head p j z)) ∙ g
      by false g z ih = ih z

-- a head but the one whose turn it is stays
pub turned_other : (f : Head → Head) (j i : ℕ) (hs : Heads) → (i ≡ j → ⊥) → turn_of f j hs i ≡ hs i
unfolding turn_of
turned_other f j i hs z = ap (λ (b : Bool). cond b (f (hs i)) (hs i)) (ne_eqb i j z)

pub turned_self : (f : Head → Head) (j i : ℕ) (hs : Heads) → i ≡ j → turn_of f j hs i ≡ f (hs i)
unfolding turn_of
turned_self f j i hs z = ap (λ (b : Bool). cond b (f (hs i)) (hs i)) (eq-eqb i j z)

module _ (f : Head → Head) (n : ℕ) where
  -- a call that finds no head, and one that gives a turn first
  pub found_none : (k i : ℕ) (hs : Heads) → next_from n hs i n ≡ none → turns_from f n k i hs ≡ record { heads = hs; order = [] }
  unfolding turns_from
  found_none zero i hs e = refl
  found_none (suc k) i hs e =
      ap (λ (x : Next). elim x as (λ z. Turns) [
        | none ↦ record { heads = hs; order = [] }
        | head j ↦ first j (turns_from f n k (after n j) (turn_of f j hs))
      ]) e

  pub found : (k i j : ℕ) (hs : Heads) → next_from n hs i n ≡ head j → turns_from f n (suc k) i hs ≡ first j (turns_from f n k (after n j) (turn_of f j hs))
  unfolding turns_from
  found k i j hs e =
      ap (λ (x : Next). elim x as (λ z. Turns) [
        | none ↦ record { heads = hs; order = [] }
        | head j ↦ first j (turns_from f n k (after n j) (turn_of f j hs))
      ]) e

  pub no_turns : (i : ℕ) (hs : Heads) → turns_from f n 0 i hs ≡ record { heads = hs; order = [] }
  unfolding turns_from
  no_turns i hs = refl

  -- never more turns than are stated, fewer only once every head has stopped, and none to a head that isn't there
  given_by : (k p : ℕ) (hs : Heads) (x : Next) → next_from n hs p n ≡ x → p < n →
      ((j : ℕ) (hs : Heads) → j < n → Given n k (turns_from f n k j hs)) → Given n (suc k) (turns_from f n (suc k) p hs)
  given_by k p hs none e h ih =
      subst⁻¹ (Given n (suc k)) (found_none (suc k) p hs e)
      (record { no_more = omega arith; fewer = λ l i m. all_stopped n hs p i h m e; numbers = λ i m. absurd (elim m [ ]) })
  given_by k p hs (head j) e h ih =
      let inside = found_inside n hs n p j h e in
      let g = ih (after n j) (turn_of f j hs) (after_less n j inside) in
      subst⁻¹ (Given n (suc k)) (found k p j hs e)
      (record {
        no_more = omega (arith, g.no_more);
        fewer = λ l i m. g.fewer (omega arith) i m;
        numbers = λ i m. ⊎_elim (λ z. subst⁻¹ (λ (x : ℕ). x < n) z inside) (λ z. g.numbers i z) (Memᴰ.cases_cons m);
      })

  given_from : (k p : ℕ) (hs : Heads) → p < n → Given n k (turns_from f n k p hs)
  given_from zero p hs h =
      subst⁻¹ (Given n 0) (no_turns p hs) (record { no_more = omega arith; fewer = λ l i m. absurd (omega arith); numbers = λ i m. absurd (elim m [ ]) })
  given_from (suc k) p hs h = given_by k p hs (next_from n hs p n) refl h (given_from k)

  pub given : (k : ℕ) (hs : Heads) → 1 ≤ n → Given n k (turns_from f n k 0 hs)
  given k hs h = given_from k 0 hs h

  -- head i, not stopped and so many heads further on than p, has its turn behind at most as many of others
  soon_by : (k m p i : ℕ) (hs : Heads) (s : Seen n hs p n i) (b : Bool) → eqb i s.which ≡ b →
      ((i ≡ s.which → ⊥) → Among i (take m (turns_from f n k (after n s.which) (turn_of f s.which hs)).order)) →
      Among i (take (suc m) (turns_from f n (suc k) p hs).order)
  soon_by k m p i hs s true e later =
      subst⁻¹ (λ (t : Turns). Among i (take (suc m) t.order)) (found k p s.which hs s.is) (Memᴰ.head (eqb-true i s.which e))
  soon_by k m p i hs s false e later =
      subst⁻¹ (λ (t : Turns). Among i (take (suc m) t.order)) (found k p s.which hs s.is) (Memᴰ.tail (later (eqb-false i s.which e)))

  soon : (k m p i : ℕ) (hs : Heads) → gap n p i < k → gap n p i < m → p < n → i < n → goes (hs i) ≡ true → Among i (take m (turns_from f n k p hs).order)
  soon zero m p i hs a b h l g = absurd (omega arith)
  soon (suc k) zero p i hs a b h l g = absurd (omega arith)
  soon (suc k) (suc m) p i hs a b h l g =
      let s = seen n hs n p i h l (gap_less n p i h l) g in
      let j = s.which in
      soon_by k m p i hs s (eqb i j) refl
      (λ z. let less = gap_next n j i s.inside l (λ y. z (sym y)) in
      soon k m (after n j) i (turn_of f j hs) (omega (arith, less, s.near, a)) (omega (arith, less, s.near, b)) (after_less n j s.inside) l
      (ap (λ (x : Head). goes x) (turned_other f j i hs z) ∙ g))

  -- the same after j turns
  waits_by : (j k p i : ℕ) (hs : Heads) (x : Next) → next_from n hs p n ≡ x → p < n → i < n → goes ((turns_from f n (suc j) p hs).heads i) ≡ true →
      ((q : ℕ) (hs : Heads) → q < n → goes ((turns_from f n j q hs).heads i) ≡ true → Among i (take n (drop j (turns_from f n k q hs).order))) →
      Among i (take n (drop (suc j) (turns_from f n (suc k) p hs).order))
  waits_by j k p i hs none e h l g ih =
      absurd (no_true (sym g ∙ ap (λ (t : Turns). goes (t.heads i)) (found_none (suc j) p hs e) ∙ all_stopped n hs p i h l e))
  waits_by j k p i hs (head q) e h l g ih =
      subst⁻¹ (λ (t : Turns). Among i (take n (drop (suc j) t.order))) (found k p q hs e)
      (ih (after n q) (turn_of f q hs) (after_less n q (found_inside n hs n p q h e)) (ap (λ (t : Turns). goes (t.heads i)) (sym (found j p q hs e)) ∙ g))

  waits_from : (j k p i : ℕ) (hs : Heads) → p < n → i < n → goes ((turns_from f n j p hs).heads i) ≡ true → j + n ≤ k →
      Among i (take n (drop j (turns_from f n k p hs).order))
  waits_from zero k p i hs h l g m =
      let less = gap_less n p i h l in
      soon k n p i hs (omega (arith, less, m)) less h l (ap (λ (t : Turns). goes (t.heads i)) (sym (no_turns p hs)) ∙ g)
  waits_from (suc j) zero p i hs h l g m = absurd (omega arith)
  waits_from (suc j) (suc k) p i hs h l g m =
      waits_by j k p i hs (next_from n hs p n) refl h l g (λ q hs' h' g'. waits_from j k q i hs' h' l g' (omega arith))

  -- a head that hasn't stopped waits at most as many turns as there are heads
  pub waits : (k : ℕ) (hs : Heads) → 1 ≤ n → WaitsAtMost n f n k hs
  waits k hs h i j l g m = waits_from j k 0 i hs h l g m

  -- and so at most 8
  pub waits_eight : (k : ℕ) (hs : Heads) → 1 ≤ n → n ≤ most_heads → WaitsAtMost most_heads f n k hs
  waits_eight k hs h s i j l g m =
      among_more i n most_heads (drop j (turns_from f n k 0 hs).order) s (waits k hs h i j l g (omega arith))
