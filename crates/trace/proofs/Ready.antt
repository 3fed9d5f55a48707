-- What a scan that answers `Ok` says of the trace and the cursor: the record that is there, the cursor past it, and how large a due time can be.
-- Assumes nothing.
use Prim.Native.Nat.{ℕ, ◌+◌, ◌*◌, ◌-◌, ◌≤◌, ◌<◌}
use native.Mathlib.Omega.{arith}
use mathlib.Core.Path.{◌≡◌, ◌∙◌, refl, sym, ap, subst}
use mathlib.Core.Bool.{Bool, true, false, cond, ◌||◌, false≢true}
use mathlib.Core.List.{List}
use mathlib.Core.Logic.{⊎_elim}
use borrow.Author.Tests.{eq-eqb, ne_eqb, eqb-true, le-ltb, ltb-false}
use lib.Dec.{eqb, ltb}
use lib.ListN.{length, drop}
use Rattle.std.specs.Prelude.{Some, None, Err, Ok}
use Rattle.record.specs.Record.{reading_of}
use Rattle.record.specs.declared.Record.{Record}
use Rattle.record.proofs.Booleans.{one_of}
use Rattle.record.proofs.Records.{Bytes, same_size}
use Rattle.trace.specs.declared.Fault.TheVariants.{Malformed, Astray}
use Rattle.trace.specs.Trace.{never, longest, Entry, end_from, starts_in, due_in, end_of, is_start, due_at, scan_of, due_next}
use Rattle.trace.proofs.Entries.{Reads, look, placed, entries_none, remaining, remaining_found, at_first, next_found, next_none, everywhere}

-- the four things that `Ok` says
pub record Standing (s : List ℕ) (cursor due : ℕ) : Type 0 where
  pub short : length s ≤ longest
  pub whole : end_of s ≡ length s
  pub start : is_start s cursor || eqb cursor (length s) ≡ true
  pub dated : due_at s cursor ≡ due

standing_by : (s : List ℕ) (cursor due : ℕ) (a b e : Bool) → ltb longest (length s) ≡ a → eqb (end_of s) (length s) ≡ b → is_start s cursor || eqb cursor (length s) ≡ e →
    cond a (Err (Malformed longest)) (cond b (cond e (Ok (due_at s cursor)) (Err Astray)) (Err (Malformed (end_of s)))) ≡ Ok due → Standing s cursor due
standing_by s cursor due false true true p q r h = record { short = ltb-false longest (length s) p; whole = eqb-true _ _ q; start = r; dated = cc }
standing_by s cursor due true b e p q r h = absurd (let z : ◌≡◌ {A = ℕ} 0 1 = cc in omega arith)
standing_by s cursor due false false e p q r h = absurd (let z : ◌≡◌ {A = ℕ} 0 1 = cc in omega arith)
standing_by s cursor due false true false p q r h = absurd (let z : ◌≡◌ {A = ℕ} 0 1 = cc in omega arith)

pub standing : (s : List ℕ) (cursor due : ℕ) → scan_of s cursor ≡ Ok due → Standing s cursor due
unfolding scan_of
standing s cursor due h = standing_by s cursor due _ _ _ refl refl refl h

pub ready : (s : List ℕ) (cursor due : ℕ) → Standing s cursor due → scan_of s cursor ≡ Ok due
unfolding scan_of
ready s cursor due h = rw (le-ltb longest (length s) h.short, eq-eqb (end_of s) (length s) h.whole, h.start, h.dated)

-- the records that are left where there is one, and where there is none
module _ (s : List ℕ) (cursor : ℕ) where
  module _ (at passed : ℕ) (q : Reads s at) where
    abbrev past : List Entry
    past = remaining s (at + q.size) (passed + q.body.wait)

    starts_found : starts_in cursor (remaining s at passed) ≡ eqb at cursor || starts_in cursor past
    unfolding starts_in
    starts_found = ap (starts_in cursor) (remaining_found s at passed q.body q.size q.found)

    due_found : due_in cursor (remaining s at passed) ≡ cond (eqb at cursor) (passed + q.body.wait) (due_in cursor past)
    unfolding due_in
    due_found = ap (due_in cursor) (remaining_found s at passed q.body q.size q.found)

    end_found : end_from at (remaining s at passed) ≡ end_from (at + q.size) past
    unfolding end_from
    end_found = ap (end_from at) (remaining_found s at passed q.body q.size q.found)

  module _ (at passed : ℕ) (e : reading_of (drop at s) ≡ None) where
    starts_none : starts_in cursor (remaining s at passed) ≡ false
    unfolding starts_in
    starts_none = ap (starts_in cursor) (entries_none (length s - at) s at passed e)

    due_none : due_in cursor (remaining s at passed) ≡ never
    unfolding due_in
    due_none = ap (due_in cursor) (entries_none (length s - at) s at passed e)

    end_none : end_from at (remaining s at passed) ≡ at
    unfolding end_from
    end_none = ap (end_from at) (entries_none (length s - at) s at passed e)

-- the first of the records that are left
module _ (s : List ℕ) (at passed : ℕ) where
  pub head_due : due_in at (remaining s at passed) ≡ due_next s at passed
  head_due =
      ⊎_elim
      (λ (q : Reads s at). due_found s at at passed q ∙ rw (eq-eqb at at refl) (sym (next_found s at passed q.body q.size q.found)))
      (λ e. due_none s at at passed e ∙ sym (next_none s at passed e)) (look s at)

  head_start : end_from at (remaining s at passed) ≡ length s → starts_in at (remaining s at passed) || eqb at (length s) ≡ true
  head_start h =
      ⊎_elim (λ (q : Reads s at). rw (starts_found s at at passed q, eq-eqb at at refl))
      (λ e. rw (starts_none s at at passed e) (eq-eqb at (length s) (sym (end_none s at at passed e) ∙ h))) (look s at)

-- the record that starts at the cursor
module _ (s : List ℕ) (cursor : ℕ) where
  lower : (at passed : ℕ) → starts_in cursor (remaining s at passed) ≡ true → at ≤ cursor
  lower =
      everywhere s (λ (at passed : ℕ). starts_in cursor (remaining s at passed) ≡ true → at ≤ cursor)
      (λ at passed e h. absurd (false≢true (sym (starts_none s cursor at passed e) ∙ h)))
      (λ at passed q below h. ⊎_elim (λ z. omega (arith, eqb-true at cursor z)) (λ z. omega (arith, below z)) (one_of _ _ (sym (starts_found s cursor at passed q) ∙ h)))

  there : (at passed : ℕ) → starts_in cursor (remaining s at passed) ≡ true → Reads s cursor
  there =
      everywhere s (λ (at passed : ℕ). starts_in cursor (remaining s at passed) ≡ true → Reads s cursor)
      (λ at passed e h. absurd (false≢true (sym (starts_none s cursor at passed e) ∙ h)))
      (λ at passed q later h. ⊎_elim (λ z. subst (Reads s) (eqb-true at cursor z) q) later (one_of _ _ (sym (starts_found s cursor at passed q) ∙ h)))

  -- before a record that does not start at the cursor
  due_later : (at passed : ℕ) (q : Reads s at) → starts_in cursor (remaining s (at + q.size) (passed + q.body.wait)) ≡ true →
      due_in cursor (remaining s at passed) ≡ due_in cursor (remaining s (at + q.size) (passed + q.body.wait))
  due_later at passed q h =
      let l = placed s at q.body q.size q.found in
      due_found s cursor at passed q ∙
      ap (λ (b : Bool). cond b (passed + q.body.wait) (due_in cursor (past s cursor at passed q)))
      (ne_eqb at cursor (λ z. omega (arith, lower (at + q.size) (passed + q.body.wait) h, l.some)))

  due_here : (at passed : ℕ) (q : Reads s at) → eqb at cursor ≡ true → due_in cursor (remaining s at passed) ≡ passed + q.body.wait
  due_here at passed q z = due_found s cursor at passed q ∙ ap (λ (b : Bool). cond b (passed + q.body.wait) (due_in cursor (past s cursor at passed q))) z

  -- a due time is at most a quarter of 65,535 for each byte, as a wait takes four
  bounded : Bytes s → (at passed : ℕ) → 4 * passed ≤ 65535 * at → starts_in cursor (remaining s at passed) ≡ true →
      4 * due_in cursor (remaining s at passed) ≤ 65535 * length s
  bounded y =
      everywhere s
      (λ (at passed : ℕ). 4 * passed ≤ 65535 * at → starts_in cursor (remaining s at passed) ≡ true → 4 * due_in cursor (remaining s at passed) ≤ 65535 * length s)
      (λ at passed e p h. absurd (false≢true (sym (starts_none s cursor at passed e) ∙ h)))
      (λ at passed q further p h.
      let l = placed s at q.body q.size q.found in
      ⊎_elim (λ z. omega (arith, due_here at passed q z, l.paced y, l.inside)) (λ z. rw (due_later at passed q z) (further (omega (arith, l.paced y)) z))
      (one_of _ _ (sym (starts_found s cursor at passed q) ∙ h)))

-- no record starts at the end
end_due : (s : List ℕ) (at passed : ℕ) → due_in (length s) (remaining s at passed) ≡ never
end_due s =
    everywhere s (λ (at passed : ℕ). due_in (length s) (remaining s at passed) ≡ never) (λ at passed e. due_none s (length s) at passed e)
    (λ at passed q later.
    let l = placed s at q.body q.size q.found in
    due_found s (length s) at passed q ∙
    ap (λ (b : Bool). cond b (passed + q.body.wait) (due_in (length s) (past s (length s) at passed q)))
    (ne_eqb at (length s) (λ z. omega (arith, l.some, l.inside))) ∙
    later)

-- past the record that starts at the cursor
module _ (s : List ℕ) (cursor : ℕ) (r : Record) (n : ℕ) (e : reading_of (drop cursor s) ≡ Some (r, n)) where
  record Onward (at passed : ℕ) : Type 0 where
    start : starts_in (cursor + n) (remaining s at passed) || eqb (cursor + n) (length s) ≡ true
    due : due_in (cursor + n) (remaining s at passed) ≡ due_next s (cursor + n) (due_in cursor (remaining s at passed))

  module _ (at passed : ℕ) (q : Reads s at) where
    abbrev on : ℕ
    on = at + q.size

    abbrev then : ℕ
    then = passed + q.body.wait

    step_on : (d : ℕ) → at ≤ cursor → due_in cursor (remaining s at passed) ≡ d → starts_in (cursor + n) (remaining s on then) || eqb (cursor + n) (length s) ≡ true →
        due_in (cursor + n) (remaining s on then) ≡ due_next s (cursor + n) d → Onward at passed
    step_on d below b st du =
        let l = placed s cursor r n e in
        let w : eqb at (cursor + n) ≡ false = ne_eqb at (cursor + n) (λ z. omega (arith, l.some)) in
        record {
          start = ap (λ (x : Bool). x || eqb (cursor + n) (length s)) (starts_found s (cursor + n) at passed q ∙ ap (λ (x : Bool). x || starts_in (cursor + n) (remaining s on then)) w) ∙ st;
          due = due_found s (cursor + n) at passed q ∙ ap (λ (x : Bool). cond x then (due_in (cursor + n) (remaining s on then))) w ∙ du ∙ ap (due_next s (cursor + n)) (sym b);
        }

    same : at ≡ cursor → on ≡ cursor + n
    same k =
        let f : reading_of (drop at s) ≡ Some (r, n) = ap (λ (i : ℕ). reading_of (drop i s)) k ∙ e in
        let m : q.size ≡ n = same_size q.body r q.size n (sym q.found ∙ f) in
        omega arith

    here_on : end_from at (remaining s at passed) ≡ length s → eqb at cursor ≡ true → Onward at passed
    here_on h z =
        let k = eqb-true at cursor z in
        step_on then (omega arith) (due_here s cursor at passed q z)
        (subst (λ (i : ℕ). starts_in i (remaining s on then) || eqb i (length s) ≡ true) (same k) (head_start s on then (sym (end_found s cursor at passed q) ∙ h)))
        (subst (λ (i : ℕ). due_in i (remaining s on then) ≡ due_next s i then) (same k) (head_due s on then))

    later_on : Onward on then → starts_in cursor (remaining s on then) ≡ true → Onward at passed
    later_on o z = step_on _ (omega (arith, lower s cursor on then z)) (due_later s cursor at passed q z) o.start o.due

  onward : (at passed : ℕ) → end_from at (remaining s at passed) ≡ length s → starts_in cursor (remaining s at passed) ≡ true → Onward at passed
  onward =
      everywhere s (λ (at passed : ℕ). end_from at (remaining s at passed) ≡ length s → starts_in cursor (remaining s at passed) ≡ true → Onward at passed)
      (λ at passed none h k. absurd (false≢true (sym (starts_none s cursor at passed none) ∙ k)))
      (λ at passed q further h k.
      ⊎_elim (λ z. here_on at passed q h z) (λ z. later_on at passed q (further (sym (end_found s cursor at passed q) ∙ h) z) z)
      (one_of _ _ (sym (starts_found s cursor at passed q) ∙ k)))

-- the same of the whole trace
module _ (s : List ℕ) (cursor : ℕ) where
  from_first : is_start s cursor ≡ true → starts_in cursor (remaining s 0 0) ≡ true
  from_first h = ap (starts_in cursor) (at_first s) ∙ h

  end_first : end_of s ≡ length s → end_from 0 (remaining s 0 0) ≡ length s
  end_first h = ap (end_from 0) (at_first s) ∙ h

module _ (s : List ℕ) (cursor due : ℕ) (h : scan_of s cursor ≡ Ok due) where
  started : (cursor ≡ length s → ⊥) → is_start s cursor ≡ true
  started apart =
      ⊎_elim (λ z. z) (λ z. absurd (apart (eqb-true cursor (length s) z))) (one_of (is_start s cursor) (eqb cursor (length s)) (standing s cursor due h).start)

  -- away from the end a record is there
  pub ready_reads : (cursor ≡ length s → ⊥) → Reads s cursor
  ready_reads apart = there s cursor 0 0 (from_first s cursor (started apart))

  -- at the end nothing is due
  pub ready_end : cursor ≡ length s → due ≡ never
  ready_end z = sym (standing s cursor due h).dated ∙ ap (due_at s) z ∙ ap (due_in (length s)) (sym (at_first s)) ∙ end_due s 0 0

  -- a record is there wherever the due time is one that a clock can reach
  pub due_reads : due < never → Reads s cursor
  due_reads l = ready_reads (λ z. omega (arith, ready_end z))

  -- a due time is at most 1,073,725,440
  pub ready_bound : Bytes s → (cursor ≡ length s → ⊥) → due ≤ 1073725440
  ready_bound y apart =
      let t = standing s cursor due h in
      let d : due_in cursor (remaining s 0 0) ≡ due = ap (due_in cursor) (at_first s) ∙ t.dated in
      omega (arith, bounded s cursor y 0 0 (omega arith) (from_first s cursor (started apart)), t.short)

  -- the cursor past the record is ready too, with the due time that the next record has
  pub ready_next : (r : Record) (n : ℕ) → reading_of (drop cursor s) ≡ Some (r, n) → scan_of s (cursor + n) ≡ Ok (due_next s (cursor + n) due)
  ready_next r n e =
      let t = standing s cursor due h in
      let l = placed s cursor r n e in
      let o = onward s cursor r n e 0 0 (end_first s cursor t.whole) (from_first s cursor (started (λ z. omega (arith, l.some, l.inside)))) in
      let d : due_in cursor (remaining s 0 0) ≡ due = ap (due_in cursor) (at_first s) ∙ t.dated in
      ready s (cursor + n) (due_next s (cursor + n) due)
      (record {
        short = t.short;
        whole = t.whole;
        start = ap (λ (es : List Entry). starts_in (cursor + n) es || eqb (cursor + n) (length s)) (sym (at_first s)) ∙ o.start;
        dated = ap (due_in (cursor + n)) (sym (at_first s)) ∙ o.due ∙ ap (due_next s (cursor + n)) d;
      })

  -- the cursor past the record is in the trace or at its end
  pub ready_past : (r : Record) (n : ℕ) → reading_of (drop cursor s) ≡ Some (r, n) → (cursor + n ≤ length s) × (length s ≤ longest)
  ready_past r n e = ((placed s cursor r n e).inside, (standing s cursor due h).short)

  -- the cursor is in the trace or at its end
  pub ready_inside : cursor ≤ length s
  ready_inside =
      ⊎_elim
      (λ z. let q = there s cursor 0 0 (from_first s cursor z) in omega (arith, (placed s cursor q.body q.size q.found).inside))
      (λ z. omega (arith, eqb-true cursor (length s) z)) (one_of (is_start s cursor) (eqb cursor (length s)) (standing s cursor due h).start)

-- a cursor of 0 is never astray
module _ (s : List ℕ) where
  pub at_start : end_of s ≡ length s → is_start s 0 || eqb 0 (length s) ≡ true
  at_start h = ap (λ (es : List Entry). starts_in 0 es || eqb 0 (length s)) (sym (at_first s)) ∙ head_start s 0 0 (end_first s 0 h)

  astray_by : (a b : Bool) → eqb (end_of s) (length s) ≡ b →
      cond a (Err (Malformed longest)) (cond b (cond (is_start s 0 || eqb 0 (length s)) (Ok (due_at s 0)) (Err Astray)) (Err (Malformed (end_of s)))) ≡ Err Astray → ⊥
  astray_by true b q h = let z : ◌≡◌ {A = ℕ} 0 1 = cc in omega arith
  astray_by false false q h = let z : ◌≡◌ {A = ℕ} 0 1 = cc in omega arith
  astray_by false true q h =
      let g : Ok (due_at s 0) ≡ Err Astray =
      ap (λ (x : Bool). cond x (Ok (due_at s 0)) (Err Astray)) (sym (at_start (eqb-true (end_of s) (length s) q))) ∙ h in
      let z : ◌≡◌ {A = ℕ} 0 1 = cc in
      omega arith

  pub never_astray : scan_of s 0 ≡ Err Astray → ⊥
  unfolding scan_of
  never_astray h = astray_by (ltb longest (length s)) (eqb (end_of s) (length s)) refl h
