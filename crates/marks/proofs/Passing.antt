-- What the proofs of this crate cite: the lines of a text one after another, what they say, and the marks that are kept. Assumes nothing.
use Prim.Native.Nat.{ℕ, zero, suc, ◌+◌, ◌<◌}
use native.Mathlib.Numerals.{add-one}
use native.Mathlib.Omega.{arith}
use mathlib.Core.Path.{◌≡◌, refl, sym, ◌∙◌, ap, ap₂, subst}
use mathlib.Core.Bool.{Bool, true, false, cond, ◌&&◌, and_assoc, and-true}
use mathlib.Core.List.{List, [], ◌∷◌, ◌++◌, flatten, append-nil}
use lib.Dec.{eqb, leb}
use lib.ListN.{length, take, set, length-append}
use lib.Seq.{take-suc-set, take_all, length-take-le, take_at}
use denote.Ref.{Bor}
use Rattle.std.specs.Prelude.{Option, Some, None, is_some, unwrap_or, map}
use Rattle.std.specs.Iterator.{Yields}
use Rattle.std.proofs.lemmas.Iterator.{YieldsList}
use Rattle.std.proofs.lemmas.Iterator.Consumers.{YieldsList-end}
use Rattle.std.specs.List.{slice_split, onto_first}
use Rattle.text.specs.Budget.{budget_in, steps_of, budget_of}
use Rattle.text.specs.Pieces.{absorbed, absorbed_all, said_of}
use Rattle.text.specs.declared.budget.Seen.TheVariants.{Before}
use Rattle.text.proofs.Reading.{read_whole}
use Rattle.marks.specs.Order.{trimmed, line_end, longer, lines_in, first_of, further_of, is_said, all_said, numbers_of}
use Rattle.marks.specs.Order.{budget_said, marks_said, longest_order, is_readable}
use Rattle.marks.specs.Lines.{room}

-- what `split` gives at the line ends are the lines
onto_longer : (b : ℕ) (lines : List (List ℕ)) → onto_first b lines ≡ longer b lines
unfolding longer
onto_longer b [] = refl
onto_longer b (line ∷ lines) = refl

split_by : (t : Bool) (b : ℕ) (ks ls : List (List ℕ)) → ks ≡ ls → cond t ([] ∷ ks) (onto_first b ks) ≡ cond t ([] ∷ ls) (longer b ls)
split_by true b ks ls e = ap (λ (x : List (List ℕ)). [] ∷ x) e
split_by false b ks ls e = ap (onto_first b) e ∙ onto_longer b ls

pub lines_split : (l : List ℕ) → slice_split (λ b. eqb b line_end) l ≡ lines_in l
unfolding lines_in
lines_split [] = refl
lines_split (b ∷ l) = split_by (eqb b line_end) b _ _ (lines_split l)

-- all parts that an iterator gives, of which the first call gives r and a loop the further ones, xs
pub all_parts : {S : Type 0} {steps : S → Option (Bor (List ℕ)) → S → Type 0} {s t i u v : S} {all : List (List ℕ)} → YieldsList steps (λ x. x.now) s all → 0 < length all →
    (r : Option (Bor (List ℕ))) (d : Bor (List ℕ)) → steps s r t → i ≡ t → (xs : List (Bor (List ℕ))) → Yields steps i xs u →
    (q : Option (Bor (List ℕ))) → q ≡ None → steps u q v → (first : Bor (List ℕ)) → first ≡ unwrap_or r d → first.now ∷ map (λ x. x.now) xs ≡ all
all_parts {s = s} {t = t} e some None d step from xs y q n ended first f =
    let none : 0 ≡ length _ = (YieldsList-end e [] s refl None t refl step).1 in
    absurd (omega arith)
all_parts {S} {steps} {t = t} {u = u} {v = v} e some (Some x) d step from xs y q n ended first f =
    ap (λ (k : Bor (List ℕ)). k.now ∷ map (λ x. x.now) xs) f
    ∙ (YieldsList-end e (x ∷ xs) u (t, step, subst (λ (k : S). Yields steps k xs u) from y) q v n ended).0

-- whether a number is said
pub said_some : (b : Option ℕ) → is_some b ≡ is_said b
unfolding is_said
said_some (Some n) = refl
said_some None = refl

-- a line more
said_more : (ls : List (List ℕ)) (line : List ℕ) → all_said (ls ++ line ∷ []) ≡ (all_said ls && is_said (budget_in line))
unfolding all_said
said_more [] line = and-true (is_said (budget_in line))
said_more (l ∷ ls) line = ap (λ (x : Bool). is_said (budget_in l) && x) (said_more ls line) ∙ sym (and_assoc (is_said (budget_in l)) (all_said ls) (is_said (budget_in line)))

numbers_more : (ls : List (List ℕ)) (line : List ℕ) → numbers_of (ls ++ line ∷ []) ≡ numbers_of ls ++ (budget_of line ∷ [])
unfolding numbers_of
numbers_more [] line = refl
numbers_more (l ∷ ls) line = ap (λ (x : List ℕ). budget_of l ∷ x) (numbers_more ls line)

-- a line that is read as one piece
pub said_whole : (l : List ℕ) → said_of (absorbed Before l) ≡ budget_in l
unfolding absorbed_all flatten
said_whole l = read_whole (l ∷ []) ∙ ap budget_in (append-nil l)

-- a mark that finds room, and one that finds none
pub kept_more : (ms : List ℕ) (n m : ℕ) → n < room → length ms ≡ room → take (n + 1) (set ms n m) ≡ take room (take n ms ++ (m ∷ []))
kept_more ms n m h e =
    rw add-one
    (take-suc-set ms n m (omega arith)
    ∙ sym (take_all room (take n ms ++ (m ∷ [])) (omega (arith, length-append (take n ms) (m ∷ []), length-take-le n ms (omega arith)))))

pub kept_full : (ms : List ℕ) (n m : ℕ) → n ≡ room → length ms ≡ room → take n ms ≡ take room (take n ms ++ (m ∷ []))
kept_full ms n m h e =
    let all : take n ms ≡ ms = take_all n ms (omega arith) in
    rw all (sym (take_at ms (m ∷ []) room e))

-- what is taken twice
taken_again : (n : ℕ) (a b : List ℕ) → take n (take n a ++ b) ≡ take n (a ++ b)
taken_again zero a b = refl
taken_again (suc n) [] b = refl
taken_again (suc n) (x ∷ a) b = ap (λ (t : List ℕ). x ∷ t) (taken_again n a b)

-- a line more that is read, which says b: whether all is said, and the marks that are kept
module _ (ls : List (List ℕ)) (line : List ℕ) (b : Option ℕ) (f : b ≡ budget_in line) where
  pub said_on : (long r : Bool) → r ≡ (long && all_said ls) → (r && is_some b) ≡ (long && all_said (ls ++ line ∷ []))
  said_on long r e =
      ap₂ (λ (x y : Bool). x && y) e (said_some b ∙ ap is_said f)
      ∙ and_assoc long (all_said ls) (is_said (budget_in line))
      ∙ ap (λ (x : Bool). long && x) (sym (said_more ls line))

  pub kept_on : (ks ms : List ℕ) (m : ℕ) → m ≡ steps_of b → ks ≡ take room (numbers_of ls) → ms ≡ take room (ks ++ (m ∷ [])) → ms ≡ take room (numbers_of (ls ++ line ∷ []))
  unfolding budget_of
  kept_on ks ms m g e i =
      i
      ∙ ap₂ (λ (x : List ℕ) (n : ℕ). take room (x ++ (n ∷ []))) e (g ∙ ap steps_of f)
      ∙ taken_again room (numbers_of ls) (budget_of line ∷ [])
      ∙ ap (take room) (sym (numbers_more ls line))

-- an order's first line and its further ones, as the text t that is trimmed has them
module _ (order t first : List ℕ) (further : List (List ℕ)) (f : t ≡ trimmed order) (e : first ∷ further ≡ slice_split (λ b. eqb b line_end) t) where
  in_lines : lines_in (trimmed order) ≡ first ∷ further
  in_lines = ap lines_in (sym f) ∙ sym (e ∙ lines_split t)

  pub budget_read : budget_in first ≡ budget_said order
  unfolding budget_said first_of
  budget_read = rw in_lines

  pub marks_read : numbers_of further ≡ marks_said order
  unfolding marks_said further_of
  marks_read = rw in_lines

  pub all_read : (leb (length order) longest_order && all_said further) ≡ is_readable order
  unfolding is_readable further_of
  all_read = rw in_lines
