-- Counting one litre after another comes to the lines. Assumes nothing.
use Prim.Native.Nat.{ℕ, zero, suc, ◌+◌, ◌-◌, ◌≤◌, ◌<◌}
use native.Mathlib.Numerals.{add-one}
use native.Mathlib.Omega.{arith}
use mathlib.Core.Path.{◌≡◌, refl, sym, ◌∙◌, ap, ap₂, subst}
use mathlib.Core.Bool.{Bool, true, false, cond}
use mathlib.Core.List.{List, [], ◌∷◌}
use borrow.Author.Tests.{eq-eqb, ne_eqb}
use lib.ListN.{length, get_or, set, drop, replicate, length-set}
use Rattle.litres.specs.declared.log.Change.{Change}
use Rattle.litres.specs.Log.{record_size, changes_of}
use Rattle.litres.specs.Farms.{most_farms, bit_after, is_litre, litres_from, litres_in, farm_of, line_of}
use Rattle.litres.specs.Lines.{lines_from, counted_of}
use Rattle.litres.specs.Tally.{Tally, none_yet, added_to, tallied_by}
use Rattle.litres.proofs.Records.{changes_end}
use Rattle.litres.proofs.Farming.{Behind, behind_farm, behind_more}

-- a line with the litres of a clock t before others: t's own line has one more
pub line_own : (marks ts : List ℕ) (t k : ℕ) → farm_of marks t ≡ k → line_of marks (t ∷ ts) k ≡ suc (line_of marks ts k)
unfolding line_of
line_own marks ts t k e = simp (eq-eqb _ _ e)

pub line_other : (marks ts : List ℕ) (t k : ℕ) → (farm_of marks t ≡ k → ⊥) → line_of marks (t ∷ ts) k ≡ line_of marks ts k
unfolding line_of
line_other marks ts t k n = simp (ne_eqb _ _ n)

-- what is counted so far from line k on, with the litres that are still to come
abbrev lines_on : List ℕ → List ℕ → List ℕ → ℕ → List ℕ
lines_on marks ts [] k = []
lines_on marks ts (x ∷ xs) k = (x + line_of marks ts k) ∷ lines_on marks ts xs (suc k)

-- a litre of a line before them leaves them
lines_kept : (marks ts xs : List ℕ) (t k : ℕ) → farm_of marks t < k → lines_on marks ts xs k ≡ lines_on marks (t ∷ ts) xs k
lines_kept marks ts [] t k h = refl
lines_kept marks ts (x ∷ xs) t k h =
    ap₂ (λ (a : ℕ) (b : List ℕ). (x + a) ∷ b) (sym (line_other marks ts t k (λ z. omega arith))) (lines_kept marks ts xs t (suc k) (omega arith))

-- one of line k + i is there when it is added to what is counted
lines_added : (marks ts xs : List ℕ) (t i k : ℕ) → farm_of marks t ≡ k + i →
    lines_on marks ts (set xs i (suc (get_or xs i 0))) k ≡ lines_on marks (t ∷ ts) xs k
lines_added marks ts [] t i k e = refl
lines_added marks ts (x ∷ xs) t zero k e =
    ap₂ (λ (a : ℕ) (b : List ℕ). a ∷ b)
    (let g : suc x + line_of marks ts k ≡ x + line_of marks (t ∷ ts) k = omega (arith, line_own marks ts t k (omega arith)) in g)
    (lines_kept marks ts xs t (suc k) (omega arith))
lines_added marks ts (x ∷ xs) t (suc i) k e =
    ap₂ (λ (a : ℕ) (b : List ℕ). (x + a) ∷ b) (sym (line_other marks ts t k (λ z. omega arith))) (lines_added marks ts xs t i (suc k) (omega arith))

-- all that a tally comes to with the litres that are still to come
abbrev totals : List ℕ → List ℕ → Tally → Tally
totals marks ts t = record { unplaced = t.unplaced + line_of marks ts 0; farm = lines_on marks ts t.farm 1 }

abbrev tally : ℕ → List ℕ → Tally
tally n l = record { unplaced = n; farm = l }

added_by_lem : (marks cs : List ℕ) (c k : ℕ) (t : Tally) → farm_of marks c ≡ k → totals marks cs (added_to true k t) ≡ totals marks (c ∷ cs) t
added_by_lem marks cs c zero t e =
    ap₂ tally
    (let g : suc t.unplaced + line_of marks cs 0 ≡ t.unplaced + line_of marks (c ∷ cs) 0 = omega (arith, line_own marks cs c 0 e) in g)
    (lines_kept marks cs t.farm c 1 (omega arith))
added_by_lem marks cs c (suc i) t e =
    ap₂ tally
    (ap (λ (a : ℕ). t.unplaced + a) (sym (line_other marks cs c 0 (λ z. omega arith))))
    (lines_added marks cs t.farm c i 1 (omega arith))

-- where none are to come, what is counted is all
lines_none : (marks xs : List ℕ) (k : ℕ) → xs ≡ lines_on marks [] xs k
unfolding line_of
lines_none marks [] k = refl
lines_none marks (x ∷ xs) k = ap₂ (λ (a : ℕ) (b : List ℕ). a ∷ b) (let g : x ≡ x + 0 = omega arith in g) (lines_none marks xs (suc k))

no_more : (marks : List ℕ) (n k : ℕ) → n ≡ n + line_of marks [] k
unfolding line_of
no_more marks n k = omega arith

tallied_totals : (marks cs : List ℕ) (t : Tally) → tallied_by marks cs t ≡ totals marks cs t
unfolding tallied_by
tallied_totals marks [] t = ap₂ tally (no_more marks t.unplaced 0) (lines_none marks t.farm 1)
tallied_totals marks (c ∷ cs) t = tallied_totals marks cs (added_to true (farm_of marks c) t) ∙ added_by_lem marks cs c (farm_of marks c) t refl

-- n lines that nothing is counted in yet
lines_fresh : (marks ts : List ℕ) (n k : ℕ) → lines_on marks ts (replicate n 0) k ≡ lines_from marks ts k n
unfolding lines_from
lines_fresh marks ts zero k = refl
lines_fresh marks ts (suc n) k = ap₂ (λ (a : ℕ) (b : List ℕ). a ∷ b) (let g : 0 + line_of marks ts k ≡ line_of marks ts k = omega arith in g) (lines_fresh marks ts n (suc k))

-- all litres, from none on
pub tallied_all : (marks ts : List ℕ) → tallied_by marks ts none_yet ≡ record { unplaced = line_of marks ts 0; farm = lines_from marks ts 1 most_farms }
tallied_all marks ts =
    tallied_totals marks ts none_yet
    ∙ ap₂ tally (let g : 0 + line_of marks ts 0 ≡ line_of marks ts 0 = omega arith in g) (lines_fresh marks ts most_farms 1)

litre_or_not : (marks : List ℕ) (litre : Bool) (clock : ℕ) (ts : List ℕ) (t : Tally) →
    tallied_by marks (cond litre (clock ∷ ts) ts) t ≡ tallied_by marks ts (added_to litre (farm_of marks clock) t)
unfolding tallied_by
litre_or_not marks true clock ts t = refl
litre_or_not marks false clock ts t = refl

-- one record further: its litre, if it is one, is added to its farm's line
pub tallied_more : (marks : List ℕ) (was : ℕ) (c : Change) (cs : List Change) (t : Tally) →
    tallied_by marks (litres_from was (c ∷ cs)) t ≡ tallied_by marks (litres_from (bit_after was c) cs) (added_to (is_litre was c) (farm_of marks c.clock) t)
unfolding litres_from
tallied_more marks was c cs t = litre_or_not marks (is_litre was c) c.clock (litres_from (bit_after was c) cs) t

few_set : (xs : List ℕ) (k i v before after most : ℕ) → after < before → ((j : ℕ) → get_or xs j 0 + before ≤ most) → v + after ≤ most → get_or (set xs k v) i 0 + after ≤ most
few_set [] k i v before after most l f h = omega (arith, f i)
few_set (x ∷ xs) zero zero v before after most l f h = h
few_set (x ∷ xs) zero (suc i) v before after most l f h = omega (arith, f (suc i))
few_set (x ∷ xs) (suc k) zero v before after most l f h = omega (arith, f zero)
few_set (x ∷ xs) (suc k) (suc i) v before after most l f h = few_set xs k i v before after most l (λ j. f (suc j)) h

-- no line has more litres than bytes are passed: what it has, with the bytes that are left, is within the log
pub few_added : (litre : Bool) (k before after most : ℕ) (t : Tally) → after < before → t.unplaced + before ≤ most → ((i : ℕ) → get_or t.farm i 0 + before ≤ most) →
    ((added_to litre k t).unplaced + after ≤ most) × ((i : ℕ) → get_or (added_to litre k t).farm i 0 + after ≤ most)
few_added false k before after most t l u f = (omega arith, λ i. omega (arith, f i))
few_added true zero before after most t l u f = (omega arith, λ i. omega (arith, f i))
few_added true (suc k) before after most t l u f = (omega arith, λ i. few_set t.farm k i (suc (get_or t.farm k 0)) before after most l f (omega (arith, f k)))

-- a litre more by its line
pub added_line : (n k : ℕ) (l : List ℕ) → 1 ≤ k → record { unplaced = n; farm = set l (k - 1) (get_or l (k - 1) 0 + 1) } ≡ added_to true k (tally n l)
added_line n zero l h = absurd (omega arith)
added_line n (suc k) l h =
    let back : suc k - 1 ≡ k = omega arith in
    rw (back, add-one) refl

-- before the first litre
pub none_counted : (n i : ℕ) → get_or (replicate n 0) i 0 ≤ 0
none_counted zero i = omega arith
none_counted (suc n) zero = omega arith
none_counted (suc n) (suc i) = none_counted n i

-- a record further in the log, c: what it changes, and what is passed
pub farms_passed : (marks log rest : List ℕ) (line n : ℕ) (c : Change) → changes_of log ≡ c ∷ changes_of rest → Behind marks line (changes_of log) →
    n ≡ line + farm_of (drop line marks) c.clock → n ≡ farm_of marks c.clock
farms_passed marks log rest line n c e b r = r ∙ behind_farm marks line c (changes_of rest) (subst (Behind marks line) e b)

pub farms_behind : (marks log rest : List ℕ) (line n : ℕ) (c : Change) → changes_of log ≡ c ∷ changes_of rest → Behind marks line (changes_of log) →
    n ≡ farm_of marks c.clock → Behind marks n (changes_of rest)
farms_behind marks log rest line n c e b r =
    subst (λ (k : ℕ). Behind marks k (changes_of rest)) (sym r) (behind_more marks line c (changes_of rest) (subst (Behind marks line) e b))

pub counted_further : (marks log rest : List ℕ) (was is n : ℕ) (litre : Bool) (c : Change) (t u total : Tally) → changes_of log ≡ c ∷ changes_of rest →
    n ≡ farm_of marks c.clock → litre ≡ is_litre was c → is ≡ bit_after was c → u ≡ added_to litre n t →
    tallied_by marks (litres_from was (changes_of log)) t ≡ total → tallied_by marks (litres_from is (changes_of rest)) u ≡ total
counted_further marks log rest was is n litre c t u total e r l b a f =
    ap₂ (λ (x : ℕ) (y : Tally). tallied_by marks (litres_from x (changes_of rest)) y) b (a ∙ ap₂ (λ (x : Bool) (y : ℕ). added_to x y t) l r)
    ∙ sym (tallied_more marks was c (changes_of rest) t)
    ∙ ap (λ (cs : List Change). tallied_by marks (litres_from was cs) t) (sym e)
    ∙ f

all_counted : (marks log : List ℕ) (was : ℕ) (t : Tally) → length log < record_size → t ≡ tallied_by marks (litres_from was (changes_of log)) t
unfolding tallied_by litres_from
all_counted marks log was t h = rw (changes_end log h)

-- behind the last record, what is counted is the whole
pub counted_end : (marks log rest : List ℕ) (was : ℕ) (t : Tally) → length rest < record_size →
    tallied_by marks (litres_from was (changes_of rest)) t ≡ tallied_by marks (litres_in log) none_yet →
    record { number = 0; unplaced = t.unplaced; farm = t.farm } ≡ counted_of marks (litres_in log)
unfolding counted_of
counted_end marks log rest was t h f =
    ap (λ (u : Tally). record { number = 0; unplaced = u.unplaced; farm = u.farm }) (all_counted marks rest was t h ∙ f ∙ tallied_all marks (litres_in log))

pub added_long : (litre : Bool) (n : ℕ) (t : Tally) → length (added_to litre n t).farm ≡ length t.farm
added_long false n t = refl
added_long true zero t = refl
added_long true (suc i) t = length-set t.farm i (suc (get_or t.farm i 0))

pub started : (marks log : List ℕ) → tallied_by marks (litres_from 0 (changes_of log)) none_yet ≡ tallied_by marks (litres_in log) none_yet
unfolding litres_in
started marks log = refl
