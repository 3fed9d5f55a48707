-- Laws of the list of a trace's records: the record at a place, how the list goes on after it, and that the length of the trace is always enough for it.
-- Assumes nothing.
use Prim.Native.Nat.{ℕ, zero, suc, ◌+◌, ◌*◌, ◌-◌, ◌≤◌}
use native.Mathlib.Omega.{arith}
use mathlib.Core.Path.{◌≡◌, ◌∙◌, refl, sym, ap}
use mathlib.Core.List.{List, [], ◌∷◌}
use mathlib.Core.Logic.{◌⊎◌, inl, inr, ⊎_elim}
use lib.ListN.{length, take, drop, length-drop, drop_of_length-le}
use lib.Seq.{get_or-drop, take_all}
use Rattle.std.specs.Prelude.{Option, Some, None}
use Rattle.record.specs.Record.{reading_of}
use Rattle.record.specs.declared.Record.{Record}
use Rattle.record.proofs.Records.{Bytes, too_short, found_fits}
use Rattle.trace.specs.Trace.{never, Entry, entries_from, entries, due_after, due_next}

-- reading the part of a trace from `at` on, as a loan of it is written
pub rest_read : (s : List ℕ) (at : ℕ) → reading_of (take (length s - at) (drop at s)) ≡ reading_of (drop at s)
rest_read s at = ap reading_of (take_all (length s - at) (drop at s) (omega (arith, length-drop at s)))

-- there is no record at the end of the trace or past it
pub past_end : (s : List ℕ) (at : ℕ) → length s ≤ at → None ≡ reading_of (drop at s)
past_end s at h = too_short [] (omega arith) ∙ ap reading_of (sym (drop_of_length-le s h))

-- a record at a place: it is there or it is not
pub record Reads (s : List ℕ) (at : ℕ) : Type 0 where
  pub body : Record
  pub size : ℕ
  pub found : reading_of (drop at s) ≡ Some (body, size)

look_by : (s : List ℕ) (at : ℕ) (x : Option (Record × ℕ)) → reading_of (drop at s) ≡ x → Reads s at ⊎ (reading_of (drop at s) ≡ None)
look_by s at (Some (r, n)) e = inl (record { body = r; size = n; found = e })
look_by s at None e = inr e

pub look : (s : List ℕ) (at : ℕ) → Reads s at ⊎ (reading_of (drop at s) ≡ None)
look s at = look_by s at (reading_of (drop at s)) refl

-- a record that is there lies in the trace, and its wait is bounded by its length
pub record Placed (s : List ℕ) (at : ℕ) (r : Record) (n : ℕ) : Type 0 where
  pub some : 2 ≤ n
  pub inside : at + n ≤ length s
  pub paced : Bytes s → 4 * r.wait ≤ 65535 * n

pub bytes_drop : (s : List ℕ) (at : ℕ) → Bytes s → Bytes (drop at s)
bytes_drop s at h k = rw get_or-drop (h (at + k))

pub placed : (s : List ℕ) (at : ℕ) (r : Record) (n : ℕ) → reading_of (drop at s) ≡ Some (r, n) → Placed s at r n
placed s at r n e =
    let f = found_fits (drop at s) r n e in
    record {
      some = f.some;
      inside = omega (arith, length-drop at s, f.inside, f.some);
      paced = λ h. f.paced (bytes_drop s at h);
    }

abbrev pub entry : ℕ → Record → ℕ → ℕ → Entry
entry at r n passed = record { start = at; size = n; due = passed + r.wait; body = r }

-- one record more, and the end of the list
pub entries_found : (most : ℕ) (s : List ℕ) (at passed : ℕ) (r : Record) (n : ℕ) → reading_of (drop at s) ≡ Some (r, n) →
    entries_from (suc most) s at passed ≡ entry at r n passed ∷ entries_from most s (at + n) (passed + r.wait)
unfolding entries_from
entries_found most s at passed r n e = rw (e, entries_from)

pub entries_none : (most : ℕ) (s : List ℕ) (at passed : ℕ) → reading_of (drop at s) ≡ None → entries_from most s at passed ≡ []
unfolding entries_from
entries_none zero s at passed e = refl
entries_none (suc most) s at passed e = rw (e, entries_from)

-- as many records as there are bytes left are enough
pub enough : (f g : ℕ) (s : List ℕ) (at passed : ℕ) → length s ≤ at + f → length s ≤ at + g → entries_from f s at passed ≡ entries_from g s at passed
enough zero g s at passed h k =
    let e = sym (past_end s at (omega arith)) in entries_none zero s at passed e ∙ sym (entries_none g s at passed e)
enough (suc f) zero s at passed h k =
    let e = sym (past_end s at (omega arith)) in entries_none (suc f) s at passed e ∙ sym (entries_none zero s at passed e)
enough (suc f) (suc g) s at passed h k =
    ⊎_elim
    (λ (q : Reads s at).
    let l = placed s at q.body q.size q.found in
    entries_found f s at passed q.body q.size q.found ∙
    ap (λ (es : List Entry). entry at q.body q.size passed ∷ es)
    (enough f g s (at + q.size) (passed + q.body.wait) (omega (arith, l.some)) (omega (arith, l.some))) ∙
    sym (entries_found g s at passed q.body q.size q.found))
    (λ e. entries_none (suc f) s at passed e ∙ sym (entries_none (suc g) s at passed e))
    (look s at)

-- the records that are left at `at`
abbrev pub remaining : List ℕ → ℕ → ℕ → List Entry
remaining s at passed = entries_from (length s - at) s at passed

pub remaining_found : (s : List ℕ) (at passed : ℕ) (r : Record) (n : ℕ) → reading_of (drop at s) ≡ Some (r, n) →
    remaining s at passed ≡ entry at r n passed ∷ remaining s (at + n) (passed + r.wait)
remaining_found s at passed r n e =
    let l = placed s at r n e in
    ap (λ (k : ℕ). entries_from k s at passed) (let g : length s - at ≡ suc (length s - at - 1) = omega (arith, l.some, l.inside) in g) ∙
    entries_found (length s - at - 1) s at passed r n e ∙
    ap (λ (es : List Entry). entry at r n passed ∷ es)
    (enough (length s - at - 1) (length s - (at + n)) s (at + n) (passed + r.wait) (omega (arith, l.some, l.inside)) (omega arith))

-- at the start all records are left
pub at_first : (s : List ℕ) → remaining s 0 0 ≡ entries s
at_first s = ap (λ (k : ℕ). entries_from k s 0 0) (let g : length s - 0 ≡ length s = omega arith in g)

-- the due time of the record at a place
pub next_found : (s : List ℕ) (at passed : ℕ) (r : Record) (n : ℕ) → reading_of (drop at s) ≡ Some (r, n) → due_next s at passed ≡ passed + r.wait
unfolding due_next
next_found s at passed r n e = ap (due_after passed) e

pub next_none : (s : List ℕ) (at passed : ℕ) → reading_of (drop at s) ≡ None → due_next s at passed ≡ never
unfolding due_next
next_none s at passed e = ap (due_after passed) e

pub next_due : (s : List ℕ) (at passed : ℕ) (r : Record) (n w : ℕ) → reading_of (drop at s) ≡ Some (r, n) → w ≡ r.wait → passed + w ≡ due_next s at passed
next_due s at passed r n w e q = ap (λ (v : ℕ). passed + v) q ∙ sym (next_found s at passed r n e)

-- induction along the records that are left: what holds where there is no record, and before a record if past it, holds everywhere
module _ (s : List ℕ) (P : ℕ → ℕ → Type 0) (none : (at passed : ℕ) → reading_of (drop at s) ≡ None → P at passed)
    (found : (at passed : ℕ) (q : Reads s at) → P (at + q.size) (passed + q.body.wait) → P at passed) where
  within : (k at passed : ℕ) → length s ≤ at + k → P at passed
  within zero at passed h = none at passed (sym (past_end s at (omega arith)))
  within (suc k) at passed h =
      ⊎_elim
      (λ (q : Reads s at).
      let l = placed s at q.body q.size q.found in
      found at passed q (within k (at + q.size) (passed + q.body.wait) (omega (arith, l.some))))
      (λ e. none at passed e) (look s at)

  pub everywhere : (at passed : ℕ) → P at passed
  everywhere at passed = within (length s) at passed (omega arith)
