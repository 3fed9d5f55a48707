-- The tests of a call for several heads. Sizes that are right, taken apart; then the heads' own tests, one head after another: an accepted head has its due
-- time and its first answer put down, and the first that refuses is the call's refusal.
-- Assumes nothing.
use Prim.Native.Nat.{ℕ, zero, suc, ◌+◌, ◌-◌, ◌*◌, ◌≤◌, ◌<◌}
use native.Mathlib.Nat.{eq-or-lt_of_le}
use native.Mathlib.Numerals.{add-one}
use native.Mathlib.Omega.{arith}
use mathlib.Core.Path.{◌≡◌, ◌∙◌, refl, sym, ap, subst, subst⁻¹}
use mathlib.Core.Bool.{Bool, true, false, not, cond, ◌&&◌, and-eq-true_iff}
use mathlib.Core.List.{List}
use mathlib.Core.Logic.{⊎_elim}
use borrow.Author.Tests.{eq-eqb, eqb-true, eqb-false, leb-true}
use lib.Dec.{eqb, leb, ltb}
use lib.ListN.{length, get_or, set, replicate, length-set}
use lib.Seq.{get_or-set_same, get_or-set_other}
use Rattle.chip.proofs.Laws.{either}
use Rattle.numbers.specs.Numbers.{done}
use Rattle.parts.specs.Parts.{most_heads, together, heads_fit, heads_number}
use Rattle.parts.specs.Judged as parts
use Rattle.parts.specs.declared.Unfit.{Unfit}
use Rattle.parts.specs.declared.Unfit.TheVariants.{Heads, Turn}
use Rattle.image.specs.Image.{cpu_of, fault_of, image_size}
use Rattle.std.specs.Prelude.{Option, Some, None, Result, Ok, Err, IsErrAnd, ⊤}
use Rattle.table.specs.Table.{table_of, stale_of}
use Rattle.trace.specs.declared.Fault.{Fault}
use Rattle.trace.specs.declared.Fault.TheVariants.{Malformed, Astray}
use Rattle.trace.specs.Trace.{scan_of, scan_number, scan_address}
use Rattle.verdicts.specs.declared.Refusal.{Refusal}
use Rattle.verdicts.specs.Verdicts.{Verdict, accepted, refused_as, rom_fits, table_fits, trace_verdict, start_verdict, state_verdict, table_verdict, run_verdict}
use Rattle.verdicts.specs.Judged.{number_of, address_of, Judged, verdict_of}
use Rattle.verdicts.proofs.Judging.{blocked}
use Rattle.verdicts.proofs.Accepted.{no_accept, cond_accepted, Numbered, taken_apart}
use Rattle.calls.specs.declared.Answer.{Answer}
use Rattle.calls.specs.Calls.{answered}
use Rattle.heads.specs.declared.tests.Refused.{Refused}
use Rattle.heads.specs.declared.tests.Standing.{Standing}
use Rattle.heads.specs.Heads.{Lent, state_at, trace_at, log_at, share, head_of}
use Rattle.heads.specs.Call.{head_verdict, or_else, first_refusal, sizes_number, call_verdict, no_answer}
use Rattle.heads.specs.Tested.{Begins, AllBegin, Sized, Tested}

-- what is lent, where its counts and lengths are right
pub record Sizes (c : Lent) : Type 0 where
  pub some : 1 ≤ c.count
  pub most : c.count ≤ most_heads
  pub lengths : length c.lengths ≡ c.count
  pub starts : length c.starts ≡ c.count
  pub traces : together c.lengths ≡ length c.traces
  pub rom : rom_fits (length c.rom) ≡ true
  pub table : length c.table ≡ 4 * length c.rom
  pub states : length c.states ≡ image_size * c.count

-- what is lent, from its parts
abbrev pub lent : ℕ → List ℕ → List ℕ → List ℕ → List ℕ → List ℕ → List ℕ → List ℕ → Lent
lent n rom table states traces lengths log starts =
    record { count = n; rom = rom; table = table; states = states; traces = traces; lengths = lengths; log = log; starts = starts }

-- a test before others, whose number is not done's
passed : (b : Bool) (m k : ℕ) → (k ≡ 0 → ⊥) → cond b m k ≡ 0 → (b ≡ true) × (m ≡ 0)
passed true m k z h = (refl, h)
passed false m k z h = absurd (z h)

-- a number that stands where it is not done's
stood : (n m : ℕ) (b : Bool) → eqb n 0 ≡ b → cond b m n ≡ 0 → (n ≡ 0) × (m ≡ 0)
stood n m true e h = (eqb-true n 0 e, h)
stood n m false e h = absurd (eqb-false n 0 e h)

-- the refusal of what is lent by its counts and lengths
abbrev pub size_number : Lent → ℕ → ℕ
size_number c q = sizes_number c.count c.rom c.table c.states c.traces c.lengths c.starts q

pub sizes_apart : (c : Lent) (q : ℕ) → size_number c q ≡ done → Sizes c
unfolding sizes_number heads_number heads_fit
sizes_apart c q h =
    let n = c.count in
    let states = eqb (length c.states) (image_size * n) in
    let table = table_fits (length c.rom) (length c.table) in
    let few = leb 1 n && leb n most_heads in
    let lists = few && eqb (length c.lengths) n in
    let listed = lists && eqb (length c.starts) n in
    let adds = eqb (together c.lengths) (length c.traces) in
    let x = stood (heads_number n (length c.traces) c.lengths c.starts q) (cond (rom_fits (length c.rom)) (cond table (cond states 0 3) 2) 1) _ refl h in
    let rom = passed (rom_fits (length c.rom)) (cond table (cond states 0 3) 2) 1 (λ z. omega arith) x.1 in
    let tab = passed table (cond states 0 3) 2 (λ z. omega arith) rom.1 in
    let five = (and-eq-true_iff listed adds).0 (passed (listed && adds) (cond (eqb q 0) 15 0) 14 (λ z. omega arith) x.0).0 in
    let four = (and-eq-true_iff lists (eqb (length c.starts) n)).0 five.0 in
    let three = (and-eq-true_iff few (eqb (length c.lengths) n)).0 four.0 in
    let two = (and-eq-true_iff (leb 1 n) (leb n most_heads)).0 three.0 in
    record {
      some = leb-true 1 n two.0;
      most = leb-true n most_heads two.1;
      lengths = eqb-true (length c.lengths) n three.1;
      starts = eqb-true (length c.starts) n four.1;
      traces = eqb-true (together c.lengths) (length c.traces) five.1;
      rom = rom.0;
      table = eqb-true (length c.table) (4 * length c.rom) tab.0;
      states = eqb-true (length c.states) (image_size * n) (passed states 0 3 (λ z. omega arith) tab.1).0;
    }

pub sizes_right : (c : Lent) (q : ℕ) → ((later : Verdict) → later ≡ cond (eqb (size_number c q) done) later (refused_as (size_number c q) 0)) → size_number c q ≡ done
sizes_right c q h = eqb-true (size_number c q) done (cond_accepted (eqb (size_number c q) done) accepted (size_number c q) 0 (sym (h accepted))).0

-- the counts refuse, whatever k is the number of the tests after them
pub unfit : (u : Unfit) (h k : ℕ) → parts.number_of u ≡ h → let n = cond (eqb h done) k h in
    (later : Verdict) → refused_as (parts.number_of u) 0 ≡ cond (eqb n done) later (refused_as n 0)
unfit Heads h k e later = rw (sym e) refl
unfit Turn h k e later = rw (sym e) refl

-- the tests of lengths, where the number h by the counts is done's: whether the ROM's, the table's and the states' are right
module _ (h : ℕ) (rom table states : Bool) (e : h ≡ done) where
  abbrev number_by : ℕ
  number_by = cond (eqb h done) (cond rom (cond table (cond states done 3) 2) 1) h

  abbrev Says : Verdict → Type 0
  Says v = (later : Verdict) → v ≡ cond (eqb number_by done) later (refused_as number_by 0)

  pub no_rom : (a m : ℕ) → ((later : Verdict) → refused_as a m ≡ cond rom later (refused_as 1 0)) → Says (refused_as a m)
  no_rom a m k later = let b = blocked rom 1 0 a m k in b.1 ∙ rw (eq-eqb h done e, b.0)

  pub no_table : (a m : ℕ) → rom ≡ true → ((later : Verdict) → refused_as a m ≡ cond table later (refused_as 2 0)) → Says (refused_as a m)
  no_table a m r k later = let b = blocked table 2 0 a m k in b.1 ∙ rw (eq-eqb h done e, r, b.0)

  pub no_states : rom ≡ true → table ≡ true → states ≡ false → Says (refused_as 3 0)
  no_states r t s later = rw (eq-eqb h done e, r, t, s)

-- a refusal passed on
pub told_on : (r : Result ⊤ Refused) (e : Refused) (n : ℕ) → IsErrAnd r (λ x. x ≡ e) → ((later : Verdict) → refused_as e.number e.address ≡ cond (eqb n done) later (refused_as n 0)) → Sized r n
told_on (Ok x) e n h f later = absurd h
told_on (Err x) e n h f later = ap (λ (y : Refused). refused_as y.number y.address) h ∙ f later

or_accepted : (x y : Verdict) → or_else x y ≡ accepted → (x ≡ accepted) × (y ≡ accepted)
or_accepted accepted y h = (refl, h)
or_accepted (refused_as k p) y h = absurd (no_accept k p h)

-- the lowest head first: an accepted head lets the next decide, a refusing one decides
module _ (v : ℕ → Verdict) where
  later : (i n : ℕ) → i < n → v i ≡ accepted → first_refusal v (suc i) (n - suc i) ≡ first_refusal v i (n - i)
  unfolding first_refusal
  later i n l h =
      let g : n - i ≡ suc (n - suc i) = omega arith in
      sym (ap (λ (k : ℕ). first_refusal v i k) g ∙ ap (λ (x : Verdict). or_else x (first_refusal v (suc i) (n - suc i))) h)

  here : (i n k p : ℕ) → i < n → v i ≡ refused_as k p → first_refusal v i (n - i) ≡ refused_as k p
  unfolding first_refusal
  here i n k p l h =
      let g : n - i ≡ suc (n - suc i) = omega arith in
      ap (λ (x : ℕ). first_refusal v i x) g ∙ ap (λ (x : Verdict). or_else x (first_refusal v (suc i) (n - suc i))) h

  -- where none refuses, all are accepted
  all_accepted : (k i j : ℕ) → first_refusal v i k ≡ accepted → i ≤ j → j < i + k → v j ≡ accepted
  unfolding first_refusal
  all_accepted zero i j h l m = absurd (omega arith)
  all_accepted (suc k) i j h l m =
      let x = or_accepted (v i) (first_refusal v (suc i) k) h in
      ⊎_elim (λ e. ap v (sym e) ∙ x.0) (λ g. all_accepted k (suc i) j x.1 g (omega arith)) (eq-or-lt_of_le l)

-- a call's verdict, where its sizes are right
heads_decide : (c : Lent) (q : ℕ) → size_number c q ≡ done → first_refusal (head_verdict c) 0 c.count ≡ call_verdict c q
unfolding call_verdict
heads_decide c q h = sym (rw (eq-eqb (size_number c q) done h))

pub accepted_apart : (c : Lent) (q : ℕ) → call_verdict c q ≡ accepted → Sizes c × ((i : ℕ) → i < c.count → head_verdict c i ≡ accepted)
unfolding call_verdict
accepted_apart c q h =
    let x = cond_accepted (eqb (size_number c q) done) (first_refusal (head_verdict c) 0 c.count) (size_number c q) 0 h in
    (sizes_apart c q (eqb-true (size_number c q) done x.0), λ i l. all_accepted (head_verdict c) c.count 0 i x.1 (omega arith) (omega arith))

-- a run refuses with no number that is done's
abbrev pub is_refusal : ℕ → Bool
is_refusal k = not (eqb k done)

trace_number : (x : Result ℕ Fault) (g : List ℕ) (e : ℕ) → Numbered is_refusal (trace_verdict x g e)
unfolding trace_verdict scan_number scan_address
trace_number (Err (Malformed p)) g e = refl
trace_number (Err Astray) g e = refl
trace_number (Ok d) g e = either (Numbered is_refusal) (ltb (length g) e) {x = refused_as 8 0} {y = accepted} refl tt

table_number : (x : Option ℕ) (v : Verdict) → Numbered is_refusal v → Numbered is_refusal (table_verdict x v)
unfolding table_verdict
table_number (Some p) v h = refl
table_number None v h = h

pub run_number : (rom table s t g : List ℕ) (e : ℕ) → Numbered is_refusal (run_verdict rom table s t g e)
unfolding run_verdict state_verdict start_verdict
run_number rom table s t g e =
    let n = length rom in
    let own = table_verdict (stale_of rom table) (start_verdict s t g e) in
    let fields = cond (eqb (fault_of s n) image_size) own (refused_as 4 (fault_of s n)) in
    let state = cond (eqb (length s) image_size) fields (refused_as 3 0) in
    either (Numbered is_refusal) (rom_fits n) {x = cond (table_fits n (length table)) state (refused_as 2 0)} {y = refused_as 1 0}
    (either (Numbered is_refusal) (table_fits n (length table)) {x = state} {y = refused_as 2 0}
    (either (Numbered is_refusal) (eqb (length s) image_size) {x = fields} {y = refused_as 3 0}
    (either (Numbered is_refusal) (eqb (fault_of s n) image_size) {x = own} {y = refused_as 4 (fault_of s n)}
    (table_number (stale_of rom table) (start_verdict s t g e) (trace_number (scan_of t (cpu_of s).cursor) g e))
    refl)
    refl)
    refl)
    refl

-- what the function answers
abbrev pub standing : List ℕ → List Answer → Standing
standing due answer = record { due = due; answer = answer }

-- the first i heads are accepted, and what they go on with is put down; the heads left decide
pub record Far (c : Lent) (i : ℕ) (due : List ℕ) (answer : List Answer) : Type 0 where
  pub within : i ≤ c.count
  pub due_long : length due ≡ most_heads
  pub answer_long : length answer ≡ most_heads
  pub left : first_refusal (head_verdict c) i (c.count - i) ≡ first_refusal (head_verdict c) 0 c.count
  pub begins : (j : ℕ) → j < i → Begins c j (standing due answer)
  pub past : (j : ℕ) → (j < i → ⊥) → get_or answer j no_answer ≡ no_answer
  pub tabled : 0 < i → c.table ≡ table_of c.rom

-- no head has an answer yet
pub all_alike : (a : Answer) → a ≡ no_answer → (n j : ℕ) → get_or (replicate n a) j no_answer ≡ no_answer
all_alike a e zero j = refl
all_alike a e (suc n) zero = e
all_alike a e (suc n) (suc j) = all_alike a e n j

pub none_yet : (c : Lent) (due : List ℕ) (a : Answer) → length due ≡ most_heads → a ≡ no_answer → Far c 0 due (replicate most_heads a)
none_yet c due a l e =
    record {
      within = omega arith;
      due_long = l;
      answer_long = refl;
      left = let z : c.count - 0 ≡ c.count = omega arith in ap (λ (k : ℕ). first_refusal (head_verdict c) 0 k) z;
      begins = λ j m. absurd (omega arith);
      past = λ j m. all_alike a e most_heads j;
      tabled = λ m. absurd (omega arith);
    }

-- a refusal passed on
pub refuses : (c : Lent) (q : ℕ) (r : Result Standing Refused) (e : Refused) → IsErrAnd r (λ x. x ≡ e) → refused_as e.number e.address ≡ call_verdict c q → Tested c q r
refuses c q (Ok s) e h v = absurd h
refuses c q (Err x) e h v =
    record {
      verdict = ap (λ (y : Refused). refused_as y.number y.address) h ∙ v;
      stands = λ s z. absurd (let n : ◌≡◌ {A = ℕ} 0 1 = cc in omega arith);
    }

pub judged_alike : (rom table : List ℕ) {s s' t t' g g' : List ℕ} (e : ℕ) {r : Result ℕ Refusal} → s ≡ s' → t ≡ t' → g ≡ g' →
    Judged (run_verdict rom table s t g e) s t r → Judged (run_verdict rom table s' t' g' e) s' t' r
judged_alike rom table {s} {s'} {t} {t'} {g} {g'} e {r} x y z j =
    subst (λ (k : List ℕ). Judged (run_verdict rom table s' t' k e) s' t' r) z
    (subst (λ (k : List ℕ). Judged (run_verdict rom table s' k g e) s' k r) y
    (subst (λ (k : List ℕ). Judged (run_verdict rom table k t g e) k t r) x j))

-- head i's own tests, as the function makes them on its share of the log
module _ (c : Lent) (i : ℕ) where
  abbrev OwnJudged : ℕ → Result ℕ Refusal → Type 0
  OwnJudged w r = Judged (run_verdict c.rom c.table (state_at i c.states) (trace_at i c.lengths c.traces) (log_at i w c.log) (get_or c.starts i 0)) (state_at i c.states) (trace_at i c.lengths c.traces) r

  head_judged : (w : ℕ) (r : Result ℕ Refusal) → w ≡ share c → OwnJudged w r → Judged (head_verdict c i) (head_of c i).state (head_of c i).trace r
  unfolding head_verdict head_of
  head_judged w r e j = subst (λ (x : ℕ). OwnJudged x r) e j

  -- where it is accepted, the table is the ROM's own
  pub head_tabled : head_verdict c i ≡ accepted → c.table ≡ table_of c.rom
  unfolding head_verdict head_of
  head_tabled h = (taken_apart c.rom c.table (state_at i c.states) (trace_at i c.lengths c.traces) (log_at i (share c) c.log) (get_or c.starts i 0) h).tabled.table_is

  head_answer : (head_of c i).answer ≡ answered done 0 0 (get_or c.starts i 0)
  unfolding head_of
  head_answer = refl

  module _ (due : List ℕ) (answer : List Answer) (f : Far c i due answer) (w : ℕ) (e : w ≡ share c) (r : Result ℕ Refusal) (j : OwnJudged w r) (l : i < c.count) where
    verdict : head_verdict c i ≡ verdict_of r
    verdict = sym (head_judged w r e j).verdict

    -- head i refuses
    pub refused_head : (q : ℕ) (x : Refusal) → size_number c q ≡ done → r ≡ Err x → refused_as (number_of x) (address_of x) ≡ call_verdict c q
    refused_head q x s g =
        let own : head_verdict c i ≡ refused_as (number_of x) (address_of x) = verdict ∙ ap verdict_of g in
        sym (here (head_verdict c) i c.count (number_of x) (address_of x) l own) ∙ f.left ∙ heads_decide c q s

    -- head i is accepted
    module _ (d : ℕ) (g : r ≡ Ok d) (a : Answer) (h : a ≡ answered done 0 0 (get_or c.starts i 0)) (s : c.count ≤ most_heads) where
      began : (n : ℕ) → n < i + 1 → Begins c n (standing (set due i d) (set answer i a))
      began n y =
          ⊎_elim
          (λ (z : n ≡ i). subst⁻¹ (λ (x : ℕ). Begins c x (standing (set due i d) (set answer i a))) z
          (record {
            due = (head_judged w r e j).stands d g ∙ ap Ok (sym (get_or-set_same due i d 0 (omega (arith, f.due_long))));
            answer = get_or-set_same answer i a no_answer (omega (arith, f.answer_long)) ∙ h ∙ sym head_answer;
          }))
          (λ (z : n < i).
          record {
            due = (f.begins n z).due ∙ ap Ok (sym (get_or-set_other due i n d 0 (λ x. omega arith)));
            answer = get_or-set_other answer i n a no_answer (λ x. omega arith) ∙ (f.begins n z).answer;
          })
          (eq-or-lt_of_le (let k : n ≤ i = omega arith in k))

      pub further : Far c (i + 1) (set due i d) (set answer i a)
      further =
          let own : head_verdict c i ≡ accepted = verdict ∙ ap verdict_of g in
          record {
            within = omega arith;
            due_long = length-set due i d ∙ f.due_long;
            answer_long = length-set answer i a ∙ f.answer_long;
            left = rw add-one (later (head_verdict c) i c.count l own ∙ f.left);
            begins = began;
            past = λ n z. get_or-set_other answer i n a no_answer (λ x. z (omega arith)) ∙ f.past n (λ y. z (omega arith));
            tabled = λ z. head_tabled own;
          }

-- all heads are accepted
pub all_begin : (c : Lent) (q i : ℕ) (due : List ℕ) (answer : List Answer) → Far c i due answer → c.count ≤ i → size_number c q ≡ done → Tested c q (Ok (standing due answer))
unfolding first_refusal
all_begin c q i due answer f l s =
    let z : c.count - i ≡ 0 = omega (arith, f.within) in
    record {
      verdict = sym (ap (λ (k : ℕ). first_refusal (head_verdict c) i k) z) ∙ f.left ∙ heads_decide c q s;
      stands =
          λ x e. let own : standing due answer ≡ x = cc in
          subst (λ (y : Standing). AllBegin c y) own
          (record {
            due_long = f.due_long;
            answer_long = f.answer_long;
            begins = λ n m. f.begins n (omega arith);
            past = λ n y. f.past n (λ m. y (omega (arith, f.within)));
          });
    }
