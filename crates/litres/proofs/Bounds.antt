-- How large the lines of a call can be: a record of the log is one litre at most, so no line has more litres than the log has records; and how many marks a call
-- has that is done. Assumes nothing.
use Prim.Native.Nat.{ℕ, zero, suc, ◌/◌, ◌≤◌}
use native.Mathlib.Omega.{arith}
use mathlib.Core.Path.{◌≡◌, refl, sym, ◌∙◌, ap}
use mathlib.Core.Bool.{Bool, true, false, cond, ◌&&◌}
use mathlib.Core.List.{List, [], ◌∷◌}
use lib.Dec.{eqb}
use lib.ListN.{length, get_or, length-replicate}
use Rattle.numbers.specs.Numbers.{done, litres_refusal}
use Rattle.litres.specs.declared.log.Change.{Change}
use Rattle.litres.specs.declared.Lines.{Lines}
use Rattle.litres.specs.Log.{record_size, changes_in, changes_of, is_log}
use Rattle.litres.specs.Farms.{most_farms, are_marks, is_litre, bit_after, litres_from, litres_in, farm_of, line_of}
use Rattle.litres.specs.Lines.{lines_from, counted_of, no_lines, lines_of}
use Rattle.litres.proofs.Farming.{marks_few}
use Rattle.litres.proofs.Counting.{none_counted}
use Rattle.litres.proofs.Answer.{by_marks}

one_more : (b : Bool) (n m : ℕ) → n ≤ m → cond b (suc n) n ≤ suc m
one_more true n m h = omega arith
one_more false n m h = omega arith

-- a line has no more litres than there are
line_few : (marks ts : List ℕ) (k : ℕ) → line_of marks ts k ≤ length ts
unfolding line_of
line_few marks [] k = omega arith
line_few marks (t ∷ ts) k = one_more (eqb (farm_of marks t) k) (line_of marks ts k) (length ts) (line_few marks ts k)

farms_few : (marks ts : List ℕ) (k n i : ℕ) → get_or (lines_from marks ts k n) i 0 ≤ length ts
unfolding lines_from
farms_few marks ts k zero i = omega arith
farms_few marks ts k (suc n) zero = line_few marks ts k
farms_few marks ts k (suc n) (suc i) = farms_few marks ts (suc k) n i

-- there are no more litres than changes, and these are a log's records
picked : (b : Bool) (t : ℕ) (ts : List ℕ) (m : ℕ) → length ts ≤ m → length (cond b (t ∷ ts) ts) ≤ suc m
picked true t ts m h = omega arith
picked false t ts m h = omega arith

risen_few : (was : ℕ) (cs : List Change) → length (litres_from was cs) ≤ length cs
unfolding litres_from
risen_few was [] = omega arith
risen_few was (c ∷ cs) = picked (is_litre was c) c.clock (litres_from (bit_after was c) cs) (length cs) (risen_few (bit_after was c) cs)

changes_count : (n : ℕ) (log : List ℕ) → length (changes_in n log) ≡ n
unfolding changes_in
changes_count zero log = refl
changes_count (suc n) log = ap suc (changes_count n _)

pub litres_few : (log : List ℕ) → length (litres_in log) ≤ length log / record_size
unfolding litres_in changes_of
litres_few log = omega (arith, risen_few 0 (changes_of log), changes_count (length log / record_size) log)

lines_count : (marks ts : List ℕ) (k n : ℕ) → length (lines_from marks ts k n) ≡ n
unfolding lines_from
lines_count marks ts k zero = refl
lines_count marks ts k (suc n) = ap suc (lines_count marks ts (suc k) n)

-- no line of an answer has more than `most`, and there are 64
pub record Few (l : Lines) (most : ℕ) : Type 0 where
  pub unplaced : l.unplaced ≤ most
  pub farms : (i : ℕ) → get_or l.farm i 0 ≤ most
  pub long : length l.farm ≡ most_farms

-- what is answered where b says whether marks and log are taken
few_by : (b : Bool) (log marks : List ℕ) → Few (cond b (counted_of marks (litres_in log)) (no_lines litres_refusal)) (length log / record_size)
unfolding counted_of
few_by true log marks =
    let all = litres_few log in
    record {
      unplaced = omega (arith, line_few marks (litres_in log) 0);
      farms = λ i. omega (arith, farms_few marks (litres_in log) 1 most_farms i);
      long = lines_count marks (litres_in log) 1 most_farms;
    }
few_by false log marks = record { unplaced = omega arith; farms = λ i. omega (arith, none_counted most_farms i); long = length-replicate {A = ℕ} most_farms 0 }

pub lines_few : (log marks : List ℕ) → Few (lines_of log marks) (length log / record_size)
unfolding lines_of
lines_few log marks = few_by (are_marks marks && is_log log) log marks

pub done_few : (log marks : List ℕ) → (lines_of log marks).number ≡ done → length marks ≤ most_farms
done_few log marks h = by (are_marks marks) refl
  where
    by : (b : Bool) → are_marks marks ≡ b → length marks ≤ most_farms
    by true e = marks_few marks e
    by false e = absurd (let z = sym (ap (λ (l : Lines). l.number) (by_marks log marks e)) ∙ h in omega arith)
