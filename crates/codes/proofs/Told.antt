-- The kinds of all codes: antt computes what rows fit a code, at every first byte whose second byte does not matter with that left open, and at every second
-- byte of the others among the rows that the first byte fits.
-- Assumes nothing.
use Prim.Native.Nat.{ℕ, ◌<◌}
use native.Mathlib.Omega.{arith}
use mathlib.Core.Path.{◌≡◌, refl, ap, ap₂, sym, subst, ◌∙◌}
use mathlib.Core.Logic.{◌↔◌}
use mathlib.Core.Bool.{Bool, true, false, cond, not, ◌&&◌, false≢true}
use mathlib.Core.List.{List, [], ◌∷◌, ◌++◌}
use lib.Dec.{eqb}
use borrow.Author.Tests.{eq-eqb, ne_eqb, eqb-true, eqb-false}
use Rattle.codes.specs.Cells.{bits_of}
use Rattle.codes.specs.Row.{Row}
use Rattle.codes.specs.Rows.{rows}
use Rattle.codes.specs.Decode.{fits, info_of, decode, member}
use Rattle.codes.specs.Entry.{marked}
use Rattle.codes.specs.declared.Instr.TheVariants.{Undefined as Unread}
use Rattle.codes.specs.declared.Kind.{Kind}
use Rattle.codes.specs.declared.Kind.TheVariants.{Defined, Undefined, Register, Bank}
use Rattle.codes.specs.Kinds.{some, widened_row, fits_row, fits_widened, fits_any_bank, kind_of, Is, outside_letter, outside_set, Kinds, Readings}
use Rattle.codes.proofs.Candidates.{keep, opens, opened, neither, candidates, info_among, info_among_lem}
use Rattle.codes.proofs.Ranges.{each, values, picked, within}
use Rattle.codes.proofs.Unread.{no_length}

-- what is computed of a code, and what the lists say
abbrev told : Bool → Bool → Bool → List Bool
told a b c = a ∷ (not a && b) ∷ (not a && c) ∷ (not a && (b && c)) ∷ []

abbrev by_rows : ℕ → ℕ → List Bool
by_rows x y = told (fits_row x y) (fits_widened x y) (fits_any_bank x y)

abbrev listed : ℕ → Bool → Bool → List Bool
listed i letter set = not (eqb i 0) ∷ letter ∷ set ∷ false ∷ []

abbrev by_lists : ℕ → ℕ → List Bool
by_lists x y = listed (info_of x y) (outside_letter x y) (outside_set x y)

plain_told : (x y : ℕ) → x < 256 → member x marked ≡ false → by_rows x y ≡ by_lists x y
unfolding fits_row fits_widened fits_any_bank info_of outside_letter outside_set
plain_told x y h m = picked (λ x. not (member x marked)) (λ x. by_rows x y) (λ x. by_lists x y) 0 256 refl x (ap not m) (omega arith) (omega arith)

-- among the rows that a first byte fits
pass : (f : Row → Bool) (v : Row) (ks vs : List Row) (p : Bool) → (p ≡ false → f v ≡ false) → some f ks ≡ some f vs → some f (elim p [ true ↦ v ∷ ks | false ↦ ks ]) ≡ some f (v ∷ vs)
pass f v ks vs true k e = ap (λ (b : Bool). cond (f v) true b) e
pass f v ks vs false k e = rw (k refl) e

some_keep : (f g : Row → Bool) → ((v : Row) → f v ≡ true → g v ≡ true) → (ws : List Row) → some f (keep g ws) ≡ some f ws
some_keep f g h [] = refl
some_keep f g h (v ∷ vs) = pass f v (keep g vs) vs (g v) (neither (g v) (f v) (h v)) (some_keep f g h vs)

unfoldable by_rows_among : ℕ → ℕ → List Bool
unfolding candidates fits_any_bank
by_rows_among x =
    let c = candidates x in
    λ y. told (some (fits (bits_of x ++ bits_of y)) c) (some (λ w. fits (bits_of x ++ bits_of y) (widened_row w)) c) (fits_any_bank x y)

unfoldable by_lists_among : ℕ → ℕ → List Bool
unfolding info_among outside_letter outside_set
by_lists_among x = let i = info_among x in λ y. listed (i y) (outside_letter x y) (outside_set x y)

rows_among : (x y : ℕ) → by_rows_among x y ≡ by_rows x y
unfolding by_rows_among candidates fits_row fits_widened
rows_among x y =
    ap₂ (λ a b. told a b (fits_any_bank x y))
    (some_keep (fits (bits_of x ++ bits_of y)) (opens x) (opened x y) rows)
    (some_keep (λ w. fits (bits_of x ++ bits_of y) (widened_row w)) (opens x) (λ w. opened x y (widened_row w)) rows)

lists_among : (x y : ℕ) → by_lists_among x y ≡ by_lists x y
unfolding by_lists_among
lists_among x y = ap (λ (i : ℕ). listed i (outside_letter x y) (outside_set x y)) (info_among_lem x y)

marked_told : (x y : ℕ) → x < 256 → y < 256 → member x marked ≡ true → by_rows x y ≡ by_lists x y
unfolding by_rows_among by_lists_among
marked_told x y h l m =
    sym (rows_among x y) ∙
    within (by_rows_among x) (by_lists_among x) 0 256
    (picked (λ x. member x marked) (λ x. values each (by_rows_among x) 0 256) (λ x. values each (by_lists_among x) 0 256) 0 256 refl x m (omega arith) (omega arith)) y
    (omega arith) (omega arith) ∙
    lists_among x y

all_told_by : (x y : ℕ) → x < 256 → y < 256 → (b : Bool) → member x marked ≡ b → by_rows x y ≡ by_lists x y
all_told_by x y h l true m = marked_told x y h l m
all_told_by x y h l false m = plain_told x y h m

-- the four facts, from what is computed
module _ (a b c p q s : Bool) (e : ◌≡◌ {A = List Bool} (told a b c) (p ∷ q ∷ s ∷ false ∷ [])) where
  first_of : a ≡ p
  first_of = cc

  second_of : not a && b ≡ q
  second_of = cc

  third_of : not a && c ≡ s
  third_of = cc

  fourth_of : not a && (b && c) ≡ false
  fourth_of = cc

-- a kind by the three tests, and each kind in its own words
abbrev kind_by : Bool → Bool → Bool → Kind
kind_by a b c = cond a Defined (cond b Register (cond c Bank Undefined))

abbrev IsBy : Kind → Bool → Bool → Bool → Type 0
IsBy Defined a b c = a ≡ true
IsBy Register a b c = (a ≡ false) × (b ≡ true)
IsBy Bank a b c = (a ≡ false) × (c ≡ true)
IsBy Undefined a b c = (a ≡ false) × (b ≡ false) × (c ≡ false)

own_kind : (a b c : Bool) → IsBy (kind_by a b c) a b c
own_kind true b c = refl
own_kind false true c = (refl, refl)
own_kind false false true = (refl, refl)
own_kind false false false = (refl, refl, refl)

no_other : (k : Kind) (a b c : Bool) → not a && (b && c) ≡ false → IsBy k a b c → kind_by a b c ≡ k
no_other Defined a b c n h = rw h
no_other Register a b c n h = rw (h.0, h.1)
no_other Bank a true c n h = absurd (false≢true (sym n ∙ rw (h.0, h.1)))
no_other Bank a false c n h = rw (h.0, h.1)
no_other Undefined a b c n h = rw (h.0, h.1, h.2)

by_lists_lem : (a b c p q i : Bool) → not a && b ≡ p → not a && c ≡ q → a ≡ not i → kind_by a b c ≡ cond p Register (cond q Bank (cond i Undefined Defined))
by_lists_lem true b c p q true f g e = absurd (false≢true (sym e))
by_lists_lem true b c p q false f g e = rw (sym f, sym g)
by_lists_lem false b c p q true f g e = rw (f, g)
by_lists_lem false b c p q false f g e = absurd (false≢true e)

-- of two tests where the first fails
but_not : (a b : Bool) → not a && b ≡ true → (a ≡ false) × (b ≡ true)
but_not true b h = absurd (false≢true h)
but_not false b h = (refl, h)

module _ (x y : ℕ) (h : x < 256) (l : y < 256) where
  abbrev a : Bool
  a = fits_row x y

  abbrev b : Bool
  b = fits_widened x y

  abbrev c : Bool
  c = fits_any_bank x y

  all_told : by_rows x y ≡ by_lists x y
  all_told = all_told_by x y h l (member x marked) refl

  row_told : a ≡ not (eqb (info_of x y) 0)
  row_told = first_of a b c _ _ _ all_told

  letter_told : not a && b ≡ outside_letter x y
  letter_told = second_of a b c _ _ _ all_told

  set_told : not a && c ≡ outside_set x y
  set_told = third_of a b c _ _ _ all_told

  apart : not a && (b && c) ≡ false
  apart = fourth_of a b c _ _ _ all_told

  is_kind : (k : Kind) → Is k x y → kind_of x y ≡ k
  unfolding kind_of
  is_kind Defined i = no_other Defined a b c apart i
  is_kind Register i = no_other Register a b c apart i
  is_kind Bank i = no_other Bank a b c apart i
  is_kind Undefined i = no_other Undefined a b c apart i

  own_words : (k : Kind) → IsBy k a b c → Is k x y
  own_words Defined i = i
  own_words Register i = i
  own_words Bank i = i
  own_words Undefined i = i

  kind_is : (k : Kind) → kind_of x y ≡ k → Is k x y
  unfolding kind_of
  kind_is k e = own_words k (subst (λ (k : Kind). IsBy k a b c) e (own_kind a b c))

  -- the kind by the lists
  pub kind_listed : kind_of x y ≡ cond (outside_letter x y) Register (cond (outside_set x y) Bank (cond (eqb (info_of x y) 0) Undefined Defined))
  unfolding kind_of
  kind_listed = by_lists_lem a b c (outside_letter x y) (outside_set x y) (eqb (info_of x y) 0) letter_told set_told row_told

  pub lengthy : (kind_of x y ≡ Defined) ↔ (info_of x y ≡ 0 → ⊥)
  lengthy = (
    λ e i. false≢true (sym (ap not (eq-eqb (info_of x y) 0 i)) ∙ sym row_told ∙ kind_is Defined e),
    λ n. is_kind Defined (row_told ∙ ap not (ne_eqb (info_of x y) 0 n)),
  )

  no_length_by : (b : Bool) → eqb (info_of x y) 0 ≡ b → (kind_of x y ≡ Defined → ⊥) → info_of x y ≡ 0
  no_length_by true e n = eqb-true (info_of x y) 0 e
  no_length_by false e n = absurd (n (lengthy.1 (eqb-false (info_of x y) 0 e)))

  pub not_read : (z : ℕ) → (decode x y z ≡ Unread) ↔ (kind_of x y ≡ Defined → ⊥)
  not_read z = (λ e d. lengthy.0 d ((no_length x y z).0 e), λ n. (no_length x y z).1 (no_length_by (eqb (info_of x y) 0) refl n))

  pub of_letter : (kind_of x y ≡ Register) ↔ (outside_letter x y ≡ true)
  of_letter = (λ e. let i = kind_is Register e in sym letter_told ∙ rw (i.0, i.1), λ o. is_kind Register (but_not a b (letter_told ∙ o)))

  pub of_set : (kind_of x y ≡ Bank) ↔ (outside_set x y ≡ true)
  of_set = (λ e. let i = kind_is Bank e in sym set_told ∙ rw (i.0, i.1), λ o. is_kind Bank (but_not a c (set_told ∙ o)))

pub kinds : Kinds
kinds =
    record {
      one_kind = λ x y h l k. (is_kind x y h l k, kind_is x y h l k);
      with_length = lengthy;
      registers = of_letter;
      banks = of_set;
    }

pub readings : Readings
readings = record { unread = λ x y z h l. not_read x y h l z }
