-- Document 02, No. 6, of the definitions: "The farm lines and that one add up to all such rises in the log"; "A litre at a mark's own clock belongs to that farm";
-- and a mark that is moved past a litre moves that litre and no other. Assumes nothing.
use Prim.Native.Nat.{ℕ, zero, suc, ◌+◌, ◌-◌, ◌≤◌, ◌<◌}
use native.Mathlib.Omega.{arith}
use mathlib.Core.Path.{◌≡◌, refl, sym, ◌∙◌, ap}
use mathlib.Core.Bool.{Bool, true, false, cond, ◌&&◌}
use mathlib.Core.List.{List, [], ◌∷◌, ◌++◌}
use borrow.Author.Tests.{lt-leb, le-leb, leb-true, leb-false, ltb-true, ltb-false}
use lib.Dec.{eqb, leb, ltb}
use lib.ListN.{length, get_or, set, length-set}
use Rattle.numbers.specs.Numbers.{done}
use Rattle.litres.specs.declared.Lines.{Lines}
use Rattle.litres.specs.Farms.{most_farms, rising, rising_after, are_marks, litres_in, farm_of, line_of}
use Rattle.litres.specs.Log.{is_log}
use Rattle.litres.specs.Lines.{lines_from, counted_of, lines_of}
use Rattle.litres.specs.Claims.{sum_of, is_between, passed, MarkMoved, line_in, LinesMoved}
use Rattle.litres.proofs.Records.{both}
use Rattle.litres.proofs.Farming.{farm_few, marks_few}
use Rattle.litres.proofs.Counting.{line_own, line_other}
use Rattle.litres.proofs.Answer.{by_marks, by_log, accepted}

-- n lines from line k on: a litre of a line before them, and one of theirs
sum_kept : (marks ts : List ℕ) (t k n : ℕ) → farm_of marks t < k → sum_of (lines_from marks (t ∷ ts) k n) ≡ sum_of (lines_from marks ts k n)
unfolding lines_from
sum_kept marks ts t k zero h = refl
sum_kept marks ts t k (suc n) h = omega (arith, line_other marks ts t k (λ z. omega arith), sum_kept marks ts t (suc k) n (omega arith))

sum_by : (marks ts : List ℕ) (t k n : ℕ) (own : Bool) → leb (farm_of marks t) k ≡ own → k ≤ farm_of marks t →
    (suc k ≤ farm_of marks t → sum_of (lines_from marks (t ∷ ts) (suc k) n) ≡ suc (sum_of (lines_from marks ts (suc k) n))) →
    sum_of (lines_from marks (t ∷ ts) k (suc n)) ≡ suc (sum_of (lines_from marks ts k (suc n)))
unfolding lines_from
sum_by marks ts t k n true e h later =
    let own : farm_of marks t ≡ k = omega (arith, leb-true (farm_of marks t) k e) in
    omega (arith, line_own marks ts t k own, sum_kept marks ts t (suc k) n (omega arith))
sum_by marks ts t k n false e h later =
    let past : k < farm_of marks t = leb-false (farm_of marks t) k e in
    omega (arith, line_other marks ts t k (λ z. omega arith), later (omega arith))

sum_more : (marks ts : List ℕ) (t k n : ℕ) → k ≤ farm_of marks t → farm_of marks t < k + n →
    sum_of (lines_from marks (t ∷ ts) k n) ≡ suc (sum_of (lines_from marks ts k n))
sum_more marks ts t k zero h l = absurd (omega arith)
sum_more marks ts t k (suc n) h l =
    sum_by marks ts t k n (leb (farm_of marks t) k) refl h (λ g. sum_more marks ts t (suc k) n g (omega arith))

no_litres : (marks : List ℕ) (k n : ℕ) → sum_of (lines_from marks [] k n) ≡ 0
unfolding lines_from line_of
no_litres marks k zero = refl
no_litres marks k (suc n) = omega (arith, no_litres marks (suc k) n)

-- every litre stands in one of the lines
all_lines : (marks ts : List ℕ) → length marks ≤ most_farms → sum_of (lines_from marks ts 0 (suc most_farms)) ≡ length ts
all_lines marks [] h = no_litres marks 0 (suc most_farms)
all_lines marks (t ∷ ts) h = omega (arith, sum_more marks ts t 0 (suc most_farms) (omega arith) (omega (arith, farm_few marks t)), all_lines marks ts h)

counted_all : (marks ts : List ℕ) → length marks ≤ most_farms → (counted_of marks ts).unplaced + sum_of (counted_of marks ts).farm ≡ length ts
unfolding counted_of lines_from
counted_all marks ts h = all_lines marks ts h

adds_by : (log marks : List ℕ) (m g : Bool) → are_marks marks ≡ m → is_log log ≡ g → (lines_of log marks).number ≡ done →
    (lines_of log marks).unplaced + sum_of (lines_of log marks).farm ≡ length (litres_in log)
adds_by log marks true true e f h = rw (accepted log marks e f) (counted_all marks (litres_in log) (marks_few marks e))
adds_by log marks false g e f h = absurd (let z = sym (ap (λ (l : Lines). l.number) (by_marks log marks e)) ∙ h in omega arith)
adds_by log marks true false e f h = absurd (let z = sym (ap (λ (l : Lines). l.number) (by_log log marks f)) ∙ h in omega arith)

-- "The farm lines and that one add up to all such rises in the log"
pub adds_up : (log marks : List ℕ) → (lines_of log marks).number ≡ done →
    (lines_of log marks).unplaced + sum_of (lines_of log marks).farm ≡ length (litres_in log)
adds_up log marks h = adds_by log marks (are_marks marks) (is_log log) refl refl h

-- a farm's line in the answer
line_at : (marks ts : List ℕ) (k n i : ℕ) → i < n → get_or (lines_from marks ts k n) i 0 ≡ line_of marks ts (k + i)
unfolding lines_from
line_at marks ts k zero i h = absurd (omega arith)
line_at marks ts k (suc n) zero h = ap (line_of marks ts) (let g : k ≡ k + 0 = omega arith in g)
line_at marks ts k (suc n) (suc i) h = line_at marks ts (suc k) n i (omega arith) ∙ ap (line_of marks ts) (let g : suc k + i ≡ k + suc i = omega arith in g)

pub farm_line : (log marks : List ℕ) (i : ℕ) → are_marks marks ≡ true → is_log log ≡ true → i < most_farms →
    get_or (lines_of log marks).farm i 0 ≡ line_of marks (litres_in log) (suc i)
unfolding counted_of
farm_line log marks i h g l = rw (accepted log marks h g) (line_at marks (litres_in log) 1 most_farms i l ∙ ap (line_of marks (litres_in log)) (let e : 1 + i ≡ suc i = omega arith in e))

pub unplaced_line : (log marks : List ℕ) → are_marks marks ≡ true → is_log log ≡ true → (lines_of log marks).unplaced ≡ line_of marks (litres_in log) 0
unfolding counted_of
unplaced_line log marks h g = rw (accepted log marks h g) refl

-- past the last farm there are no litres
pub past_the_marks : (marks ts : List ℕ) (k : ℕ) → length marks < k → line_of marks ts k ≡ 0
unfolding line_of
past_the_marks marks [] k h = refl
past_the_marks marks (t ∷ ts) k h = line_other marks ts t k (λ z. omega (arith, farm_few marks t)) ∙ past_the_marks marks ts k h

-- marks rise from each to the next
rises_after : (m i : ℕ) (ms : List ℕ) → rising_after m ms ≡ true → i < length ms → m < get_or ms i 0
unfolding rising_after
rises_after m i [] h l = absurd (omega arith)
rises_after m zero (n ∷ ns) h l = ltb-true _ _ (both (ltb m n) (rising_after n ns) h).0
rises_after m (suc i) (n ∷ ns) h l =
    let next = both (ltb m n) (rising_after n ns) h in
    omega (arith, ltb-true m n next.0, rises_after n i ns next.1 (omega arith))

rest_rises : (m : ℕ) (ms : List ℕ) → rising_after m ms ≡ true → rising ms ≡ true
unfolding rising_after rising
rest_rises m [] h = refl
rest_rises m (n ∷ ns) h = (both (ltb m n) (rising_after n ns) h).1

first_rises : (m : ℕ) (ms : List ℕ) → rising (m ∷ ms) ≡ true → rising_after m ms ≡ true
unfolding rising
first_rises m ms h = h

reach : (m : ℕ) (ms : List ℕ) (clock : ℕ) → m ≤ clock → farm_of (m ∷ ms) clock ≡ suc (farm_of ms clock)
unfolding farm_of
reach m ms clock h = simp (le-leb _ _ h)

miss : (m : ℕ) (ms : List ℕ) (clock : ℕ) → clock < m → farm_of (m ∷ ms) clock ≡ 0
unfolding farm_of
miss m ms clock h = simp (lt-leb _ _ h)

none : (clock : ℕ) → farm_of [] clock ≡ 0
unfolding farm_of
none clock = refl

-- farm k has the clocks from its own mark on up to the next farm's; before the first mark, k is 0
pub farm_is : (marks : List ℕ) (k clock : ℕ) → rising marks ≡ true → k ≤ length marks → (1 ≤ k → get_or marks (k - 1) 0 ≤ clock) →
    (k < length marks → clock < get_or marks k 0) → farm_of marks clock ≡ k
farm_is [] zero clock r h from to = none clock
farm_is [] (suc k) clock r h from to = absurd (omega arith)
farm_is (m ∷ ms) zero clock r h from to = miss m ms clock (to (omega arith))
farm_is (m ∷ ms) (suc zero) clock r h from to =
    reach m ms clock (from (omega arith)) ∙ ap suc (farm_is ms 0 clock (rest_rises m ms (first_rises m ms r)) (omega arith) (λ z. absurd (omega arith)) (λ z. to (omega arith)))
farm_is (m ∷ ms) (suc (suc k)) clock r h from to =
    let back : suc (suc k) - 1 ≡ suc k = omega arith in
    let here : get_or ms k 0 ≤ clock = rw back at (from (omega arith)) in
    let again : suc k - 1 ≡ k = omega arith in
    reach m ms clock (omega (arith, rises_after m k ms (first_rises m ms r) (omega arith)))
    ∙ ap suc (farm_is ms (suc k) clock (rest_rises m ms (first_rises m ms r)) (omega arith) (λ z. rw again here) (λ z. to (omega arith)))

next_rises : (marks : List ℕ) (i : ℕ) → rising marks ≡ true → suc i < length marks → get_or marks i 0 < get_or marks (suc i) 0
next_rises [] i r l = absurd (omega arith)
next_rises (m ∷ ms) zero r l = rises_after m 0 ms (first_rises m ms r) (omega arith)
next_rises (m ∷ ms) (suc i) r l = next_rises ms i (rest_rises m ms (first_rises m ms r)) (omega arith)

marks_rise : (marks : List ℕ) → are_marks marks ≡ true → rising marks ≡ true
unfolding are_marks
marks_rise marks h = (both (leb (length marks) most_farms) (rising marks) h).1

-- "A litre at a mark's own clock belongs to that farm"
pub at_its_mark : (marks : List ℕ) (i : ℕ) → are_marks marks ≡ true → i < length marks → farm_of marks (get_or marks i 0) ≡ suc i
at_its_mark marks i h l =
    let risen = marks_rise marks h in
    let back : suc i - 1 ≡ i = omega arith in
    farm_is marks (suc i) (get_or marks i 0) risen l (λ z. omega (arith, ap (λ (k : ℕ). get_or marks k 0) back)) (λ z. next_rises marks i risen z)

-- the mark at i moved to n: a clock that it passes is of the farm before, every other of the farm that it was of
first_moved : (m n clock : ℕ) (ms : List ℕ) (b c : Bool) → leb m clock ≡ b → ltb clock n ≡ c → m ≤ n →
    farm_of (n ∷ ms) clock ≡ cond (b && c) 0 (farm_of (m ∷ ms) clock)
first_moved m n clock ms true true e f h = miss n ms clock (ltb-true clock n f)
first_moved m n clock ms true false e f h = reach n ms clock (ltb-false clock n f) ∙ sym (reach m ms clock (leb-true m clock e))
first_moved m n clock ms false c e f h = miss n ms clock (omega (arith, leb-false m clock e)) ∙ sym (miss m ms clock (leb-false m clock e))

later_moved : (m clock i : ℕ) (ms ns : List ℕ) (t : Bool) (r : Bool) → leb m clock ≡ r → farm_of ns clock ≡ cond t i (farm_of ms clock) →
    (t ≡ true → m ≤ clock) → farm_of (m ∷ ns) clock ≡ cond t (suc i) (farm_of (m ∷ ms) clock)
later_moved m clock i ms ns true true e f h = reach m ns clock (leb-true m clock e) ∙ ap suc f
later_moved m clock i ms ns false true e f h = reach m ns clock (leb-true m clock e) ∙ ap suc f ∙ sym (reach m ms clock (leb-true m clock e))
later_moved m clock i ms ns true false e f h = absurd (omega (arith, h refl, leb-false m clock e))
later_moved m clock i ms ns false false e f h = miss m ns clock (leb-false m clock e) ∙ sym (miss m ms clock (leb-false m clock e))

pub mark_moved : (marks : List ℕ) (i n clock : ℕ) → rising marks ≡ true → i < length marks → get_or marks i 0 ≤ n →
    farm_of (set marks i n) clock ≡ cond (is_between (get_or marks i 0) n clock) i (farm_of marks clock)
mark_moved [] i n clock r l h = absurd (omega arith)
mark_moved (m ∷ ms) zero n clock r l h = first_moved m n clock ms (leb m clock) (ltb clock n) refl refl h
mark_moved (m ∷ ms) (suc i) n clock r l h =
    later_moved m clock i ms (set ms i n) (is_between (get_or ms i 0) n clock) (leb m clock) refl
    (mark_moved ms i n clock (rest_rises m ms (first_rises m ms r)) (omega arith) h)
    (λ z. omega (arith, leb-true (get_or ms i 0) clock (both (leb (get_or ms i 0) clock) (ltb clock n) z).0, rises_after m i ms (first_rises m ms r) (omega arith)))

-- the moved mark itself, and the one behind it
set_there : (marks : List ℕ) (i n : ℕ) → i < length marks → get_or (set marks i n) i 0 ≡ n
set_there [] i n l = absurd (omega arith)
set_there (m ∷ ms) zero n l = refl
set_there (m ∷ ms) (suc i) n l = set_there ms i n (omega arith)

set_behind : (marks : List ℕ) (i n : ℕ) → get_or (set marks i n) (suc i) 0 ≡ get_or marks (suc i) 0
set_behind [] i n = refl
set_behind (m ∷ ms) zero n = refl
set_behind (m ∷ ms) (suc i) n = set_behind ms i n

-- where the moved marks rise, a clock that the mark passes was of its farm
passed_own : (marks : List ℕ) (i n clock : ℕ) → rising marks ≡ true → rising (set marks i n) ≡ true → i < length marks →
    is_between (get_or marks i 0) n clock ≡ true → farm_of marks clock ≡ suc i
passed_own marks i n clock r q l h =
    let back : suc i - 1 ≡ i = omega arith in
    let in-it = both (leb (get_or marks i 0) clock) (ltb clock n) h in
    farm_is marks (suc i) clock r l (λ z. omega (arith, ap (λ (k : ℕ). get_or marks k 0) back, leb-true (get_or marks i 0) clock in-it.0))
    (λ z.
    omega (
      arith,
      ltb-true clock n in-it.1,
      next_rises (set marks i n) i q (omega (arith, length-set marks i n)),
      set_there marks i n l,
      set_behind marks i n,
    ))

-- a line with one litre more before others, which is of farm f
one_or_none : (b : Bool) (x : ℕ) → cond b (suc x) x ≡ cond b 1 0 + x
one_or_none true x = omega arith
one_or_none false x = omega arith

line_more : (marks ts : List ℕ) (t k f : ℕ) → farm_of marks t ≡ f → line_of marks (t ∷ ts) k ≡ cond (eqb f k) 1 0 + line_of marks ts k
unfolding line_of
line_more marks ts t k f e = rw e (one_or_none (eqb f k) (line_of marks ts k))

litre_moved : (marks ts : List ℕ) (t i m n : ℕ) (b : Bool) → is_between m n t ≡ b → farm_of (set marks i n) t ≡ cond b i (farm_of marks t) →
    (b ≡ true → farm_of marks t ≡ suc i) → MarkMoved marks ts i m n → MarkMoved marks (t ∷ ts) i m n
litre_moved marks ts t i m n true e f own later =
    let ns = set marks i n in
    let past : passed m n (t ∷ ts) ≡ suc (passed m n ts) = simp e in
    let was = own refl in
    record {
      loses =
          omega (
            arith,
            later.loses,
            past,
            line_other ns ts t (suc i) (λ z. omega arith),
            line_own marks ts t (suc i) was,
          );
      gains = omega (arith, later.gains, past, line_own ns ts t i f, line_other marks ts t i (λ z. omega arith));
      others = λ k h g. line_other ns ts t k (λ z. h (sym z ∙ f)) ∙ later.others k h g ∙ sym (line_other marks ts t k (λ z. g (sym z ∙ was)));
    }
litre_moved marks ts t i m n false e f own later =
    let ns = set marks i n in
    let past : passed m n (t ∷ ts) ≡ passed m n ts = simp e in
    record {
      loses = omega (arith, later.loses, past, line_more ns ts t (suc i) (farm_of marks t) f, line_more marks ts t (suc i) (farm_of marks t) refl);
      gains = omega (arith, later.gains, past, line_more ns ts t i (farm_of marks t) f, line_more marks ts t i (farm_of marks t) refl);
      others = λ k h g. omega (arith, later.others k h g, line_more ns ts t k (farm_of marks t) f, line_more marks ts t k (farm_of marks t) refl);
    }

pub mark_moves : (marks ts : List ℕ) (i n : ℕ) → rising marks ≡ true → rising (set marks i n) ≡ true → i < length marks → get_or marks i 0 ≤ n →
    MarkMoved marks ts i (get_or marks i 0) n
unfolding line_of
mark_moves marks [] i n r q l h = record { loses = refl; gains = refl; others = λ k g f. refl }
mark_moves marks (t ∷ ts) i n r q l h =
    litre_moved marks ts t i (get_or marks i 0) n (is_between (get_or marks i 0) n t) refl (mark_moved marks i n t r l h) (passed_own marks i n t r q l)
    (mark_moves marks ts i n r q l h)

skip_one : (b : Bool) (p q : ℕ) → cond b (suc p) p ≡ 0 → (p ≡ 0 → q ≡ 1) → cond b (suc q) q ≡ 1
skip_one true p q h f = absurd (omega arith)
skip_one false p q h f = f h

line_in_lem : (log marks : List ℕ) (k : ℕ) → are_marks marks ≡ true → is_log log ≡ true → k ≤ most_farms → line_in (lines_of log marks) k ≡ line_of marks (litres_in log) k
line_in_lem log marks zero h g l = unplaced_line log marks h g
line_in_lem log marks (suc k) h g l = farm_line log marks k h g l

pub lines_moved : (log marks : List ℕ) (i n : ℕ) → are_marks marks ≡ true → are_marks (set marks i n) ≡ true → is_log log ≡ true → i < length marks →
    get_or marks i 0 ≤ n → LinesMoved (lines_of log marks) (lines_of log (set marks i n)) i (passed (get_or marks i 0) n (litres_in log))
lines_moved log marks i n h q g l m =
    let moved = mark_moves marks (litres_in log) i n (marks_rise marks h) (marks_rise (set marks i n) q) l m in
    let few = marks_few marks h in
    let own : (k : ℕ) → k ≤ most_farms → line_in (lines_of log marks) k ≡ line_of marks (litres_in log) k = λ k f. line_in_lem log marks k h g f in
    let then : (k : ℕ) → k ≤ most_farms → line_in (lines_of log (set marks i n)) k ≡ line_of (set marks i n) (litres_in log) k =
    λ k f. line_in_lem log (set marks i n) k q g f in
    record {
      loses = omega (arith, moved.loses, own (suc i) (omega arith), then (suc i) (omega arith));
      gains = omega (arith, moved.gains, own i (omega arith), then i (omega arith));
      others = λ k f a b. then k f ∙ moved.others k a b ∙ sym (own k f);
    }

-- of litres among which one alone is passed, it passes exactly that
pub one_passed : (xs ys : List ℕ) (t m n : ℕ) → passed m n xs ≡ 0 → passed m n ys ≡ 0 → is_between m n t ≡ true → passed m n (xs ++ (t ∷ ys)) ≡ 1
one_passed [] ys t m n h g e = simp (e, g)
one_passed (x ∷ xs) ys t m n h g e = skip_one (is_between m n x) (passed m n xs) (passed m n (xs ++ (t ∷ ys))) h (λ z. one_passed xs ys t m n z g e)
