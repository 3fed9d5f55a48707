-- What is read of a text byte by byte is what the whole text says, however it is cut in pieces. Assumes nothing.
use Prim.Native.Nat.{ℕ, ◌+◌, ◌*◌, ◌%◌, ◌<◌, ◌≤◌}
use native.Mathlib.Numerals.{add-one}
use native.Mathlib.Omega.{arith}
use mathlib.Core.Path.{◌≡◌, refl, sym, ◌∙◌, ap}
use mathlib.Core.Bool.{Bool, true, false, cond}
use mathlib.Core.List.{List, [], ◌∷◌, ◌++◌, flatten}
use lib.ListN.{length, drop, get_or, drop_of_length-le}
use lib.Seq.{drop-cons}
use lib.Dec.{leb}
use borrow.Author.Tests.{lt-leb, leb-false}
use Rattle.std.specs.Prelude.{Option, None}
use Rattle.text.specs.Budget.{is_white, is_digit, body_of, digits_of, rest_of, is_blank, value_from, largest, limited, said_by, budget_in}
use Rattle.text.specs.Pieces.{pushed, read_before, read_after, read_digits, read_on, absorbed, absorbed_all, said_of}
use Rattle.text.specs.declared.budget.Seen.{Seen}
use Rattle.text.specs.declared.budget.Seen.TheVariants.{Before, Digits, After, Spoilt}

-- a number above the largest stays above it
above : (v : ℕ) (l : List ℕ) → largest < v → largest < value_from v l
unfolding value_from
above v [] h = h
above v (b ∷ l) h = above (10 * v + b % 16) l (omega arith)

too_large : (v : ℕ) → largest < v → limited v ≡ None
unfolding limited
too_large v h = simp (lt-leb _ _ h)

-- so it does no harm to keep it as it is
kept_by : (v b : ℕ) (l : List ℕ) (t : Bool) → leb v largest ≡ t → limited (value_from (pushed v b) l) ≡ limited (value_from (10 * v + b % 16) l)
unfolding pushed
kept_by v b l true e = simp e
kept_by v b l false e =
    let h : largest < v = leb-false _ _ e in
    simp e (too_large _ (above v l h) ∙ sym (too_large _ (above (10 * v + b % 16) l (omega arith))))

kept : (v b : ℕ) (l : List ℕ) → limited (value_from (pushed v b) l) ≡ limited (value_from (10 * v + b % 16) l)
kept v b l = kept_by v b l (leb v largest) refl

-- what a text says that goes on behind something spoilt, behind white space after digits, and behind digits
spoilt : (l : List ℕ) → said_of (absorbed Spoilt l) ≡ None
unfolding absorbed read_on said_of
spoilt [] = refl
spoilt (b ∷ l) = spoilt l

abbrev afterwards : ℕ → List ℕ → Option ℕ
afterwards v l = cond (is_blank l) (limited v) None

after_by : (v b : ℕ) (l : List ℕ) (t : Bool) → is_white b ≡ t → said_of (absorbed (After v) l) ≡ afterwards v l →
    said_of (absorbed (read_after v b) l) ≡ afterwards v (b ∷ l)
unfolding read_after is_blank
after_by v b l true e h = simp e h
after_by v b l false e h = simp e (spoilt l)

after : (v : ℕ) (l : List ℕ) → said_of (absorbed (After v) l) ≡ afterwards v l
unfolding absorbed read_on said_of is_blank
after v [] = refl
after v (b ∷ l) = after_by v b l (is_white b) refl (after v l)

abbrev further : ℕ → List ℕ → Option ℕ
further v l = cond (is_blank (rest_of l)) (limited (value_from v (digits_of l))) None

digits_by : (v b : ℕ) (l : List ℕ) (t : Bool) → is_digit b ≡ t → said_of (absorbed (Digits (pushed v b)) l) ≡ further (pushed v b) l →
    said_of (absorbed (read_digits v b) l) ≡ further v (b ∷ l)
unfolding read_digits rest_of digits_of value_from
digits_by v b l true e h = simp e (h ∙ ap (λ (x : Option ℕ). cond (is_blank (rest_of l)) x None) (kept v b (digits_of l)))
digits_by v b l false e h = simp e (after_by v b l (is_white b) refl (after v l))

digits : (v : ℕ) (l : List ℕ) → said_of (absorbed (Digits v) l) ≡ further v l
unfolding absorbed read_on said_of is_blank rest_of digits_of value_from
digits v [] = refl
digits v (b ∷ l) = digits_by v b l (is_digit b) refl (digits (pushed v b) l)

-- what a text says whole
begun_by : (b : ℕ) (l : List ℕ) (t : Bool) → is_digit b ≡ t →
    said_of (absorbed (cond (is_digit b) (Digits (pushed 0 b)) Spoilt) l) ≡ said_by (digits_of (b ∷ l)) (rest_of (b ∷ l))
unfolding digits_of rest_of said_by value_from
begun_by b l true e = simp e (digits (pushed 0 b) l ∙ ap (λ (x : Option ℕ). cond (is_blank (rest_of l)) x None) (kept 0 b (digits_of l)))
begun_by b l false e = simp e (spoilt l)

before_by : (b : ℕ) (l : List ℕ) (t : Bool) → is_white b ≡ t → said_of (absorbed Before l) ≡ budget_in l → said_of (absorbed (read_before b) l) ≡ budget_in (b ∷ l)
unfolding read_before budget_in body_of
before_by b l true e h = simp e h
before_by b l false e h = simp e (begun_by b l (is_digit b) refl)

before : (l : List ℕ) → said_of (absorbed Before l) ≡ budget_in l
unfolding absorbed read_on said_of budget_in body_of digits_of said_by
before [] = refl
before (b ∷ l) = before_by b l (is_white b) refl (before l)

-- a piece from its byte i on, and from its end on
pub absorbed_more : (s : Seen) (l : List ℕ) (i : ℕ) → i < length l → absorbed s (drop i l) ≡ absorbed (read_on s (get_or l i 0)) (drop (i + 1) l)
unfolding absorbed
absorbed_more s l i h = rw (add-one, drop-cons l i 0 h)

pub absorbed_end : (s : Seen) (l : List ℕ) (i : ℕ) → length l ≤ i → s ≡ absorbed s (drop i l)
unfolding absorbed
absorbed_end s l i h = rw (drop_of_length-le l h)

-- two pieces are read as one
joined : (s : Seen) (k l : List ℕ) → absorbed (absorbed s k) l ≡ absorbed s (k ++ l)
unfolding absorbed
joined s [] l = refl
joined s (b ∷ k) l = joined (read_on s b) k l

all : (s : Seen) (ps : List (List ℕ)) → absorbed_all s ps ≡ absorbed s (flatten ps)
unfolding absorbed_all absorbed flatten
all s [] = refl
all s (p ∷ ps) = all (absorbed s p) ps ∙ joined s p (flatten ps)

-- a text says the same however it is cut
pub read_whole : (ps : List (List ℕ)) → said_of (absorbed_all Before ps) ≡ budget_in (flatten ps)
read_whole ps = ap said_of (all Before ps) ∙ before (flatten ps)
