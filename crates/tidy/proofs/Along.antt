-- What holds along a pass over the records: the bytes so far and the bytes to come make up the tidy form, up to the trace's end. Assumes nothing.
use Prim.Native.Nat.{ℕ, ◌+◌, ◌-◌, ◌≤◌, ◌<◌}
use native.Mathlib.Omega.{arith}
use mathlib.Core.Path.{◌≡◌, ◌∙◌, refl, sym, ap, subst}
use mathlib.Core.Bool.{Bool, true, false, cond, not}
use mathlib.Core.List.{List, [], ◌++◌}
use mathlib.Core.Logic.{⊎_elim}
use lib.ListN.{length, drop, length-append, length-drop}
use lib.Seq.{drop-drop, drop-append_seam}
use Rattle.std.specs.Prelude.{None}
use Rattle.record.proofs.Records.{Bytes}
use Rattle.record.specs.Record.{reading_of}
use Rattle.trace.specs.Trace.{longest, Entry, end_from, end_of}
use Rattle.trace.proofs.Entries.{Reads, look, placed, past_end, entries_none, remaining, remaining_found, at_first}
use Rattle.tidy.specs.Meaning.{only_waits, events_in}
use Rattle.tidy.specs.Tidy.{tidy_from, tidy_of}
use Rattle.tidy.specs.Passage.{first_passage, added_of, further_of, past_of, Underway, Readable}
use Rattle.tidy.specs.declared.passage.Passage.{Passage}
use Rattle.tidy.proofs.Passing.{to_come, none_to_come, wait_to_come, event_to_come}
use Rattle.tidy.proofs.Further.{further_none, past_found, added_none, added_waits, added_event, adds}
use Rattle.tidy.proofs.Shorter.{tidy_shorter}

-- the bytes to come at a passage
abbrev pub ahead : List ℕ → Passage → List ℕ
ahead s p = to_come s p.at p.passed p.last

-- the passage after the next record, by cases: none, or past the record that is there
module _ (s : List ℕ) (y : Bytes s) (p : Passage) where
  module _ (q : Reads s p.at) where
    abbrev next : Bool → Passage
    next b = past_of p q.size q.body.wait (not b)

    come_by : (b : Bool) → only_waits q.body ≡ b → (ahead s p ≡ added_of s p ++ ahead s (next b)) × ((next b).put ≡ p.put + length (added_of s p))
    come_by true h =
        let a = added_waits s p q.body q.size q.found h in
        rw a (wait_to_come s p.at p.passed p.last q.body q.size q.found h, omega arith)
    come_by false h =
        let a = added_event s p q.body q.size q.found h in
        rw a (
          event_to_come s p.at p.passed p.last q.body q.size q.found h,
          ap (λ (k : ℕ). p.put + k) (adds s p q.body q.size q.found y),
        )

  -- the bytes to come are those that the next record adds, then those to come after it
  pub come : (ahead s p ≡ added_of s p ++ ahead s (further_of s p)) × ((further_of s p).put ≡ p.put + length (added_of s p))
  come =
      ⊎_elim
      (λ (q : Reads s p.at).
      subst (λ (z : Passage). (ahead s p ≡ added_of s p ++ ahead s z) × (z.put ≡ p.put + length (added_of s p))) (past_found s p q.body q.size q.found y)
      (come_by q (only_waits q.body) refl))
      (λ e.
      subst (λ (z : Passage). (ahead s p ≡ added_of s p ++ ahead s z) × (z.put ≡ p.put + length (added_of s p))) (further_none s p e)
      (rw (added_none s p e) (refl, omega arith)))
      (look s p.at)

-- what holds along a pass
pub record Along (s : List ℕ) (p : Passage) : Type 0 where
  pub way : Underway s p
  pub ends : end_from p.at (remaining s p.at p.passed) ≡ end_of s
  pub written : p.put ≤ length (tidy_of s)
  pub left : drop p.put (tidy_of s) ≡ ahead s p

pub along_first : (s : List ℕ) → length s ≤ longest → Along s first_passage
along_first s h = record {
  way = record { short = h; inside = omega arith; paced = omega arith; ordered = omega arith; fits = omega arith };
  ends = ap (end_from 0) (at_first s);
  written = omega arith;
  left = ap (λ (es : List Entry). tidy_from 0 (events_in es)) (sym (at_first s));
}

module _ (s : List ℕ) (y : Bytes s) (p : Passage) (a : Along s p) where
  -- what the next record adds is there to be added
  pub room : p.put + length (added_of s p) ≤ length (tidy_of s)
  room =
      let e = ap length (a.left ∙ (come s y p).0) in
      omega (arith, e, length-drop p.put (tidy_of s), length-append (added_of s p) (ahead s (further_of s p)), a.written)

  -- the bytes after the next record
  record After (z : Passage) : Type 0 where
    way : Underway s z
    ends : end_from z.at (remaining s z.at z.passed) ≡ end_of s

  module _ (q : Reads s p.at) where
    after_by : (b : Bool) → only_waits q.body ≡ b → After (next s y p q b)
    unfolding end_from
    after_by b h =
        let l = placed s p.at q.body q.size q.found in
        record {
          way = record {
            short = a.way.short;
            inside = l.inside;
            paced = omega (arith, a.way.paced, l.paced y);
            ordered = later b;
            fits = omega (arith, (come_by s y p q b h).1, room, tidy_shorter s y, a.way.short);
          };
          ends = ap (end_from p.at) (sym (remaining_found s p.at p.passed q.body q.size q.found)) ∙ a.ends;
        }
      where
        later : (b : Bool) → cond (not b) (p.passed + q.body.wait) p.last ≤ p.passed + q.body.wait
        later true = omega (arith, a.way.ordered)
        later false = omega arith

  after : After (further_of s p)
  after =
      ⊎_elim (λ (q : Reads s p.at). subst After (past_found s p q.body q.size q.found y) (after_by q (only_waits q.body) refl))
      (λ e. subst After (further_none s p e) (record { way = a.way; ends = a.ends }))
      (look s p.at)

  pub along : Along s (further_of s p)
  along =
      let c = come s y p in
      record {
        way = after.way;
        ends = after.ends;
        written = omega (arith, c.1, room);
        left =
            ap (λ (k : ℕ). drop k (tidy_of s)) c.1 ∙ sym (drop-drop (length (added_of s p)) p.put (tidy_of s)) ∙
            ap (drop (length (added_of s p))) (a.left ∙ c.0) ∙ drop-append_seam (added_of s p) (ahead s (further_of s p));
      }

  -- nothing is left: the form is whole
  pub whole : ahead s p ≡ [] → p.put ≡ length (tidy_of s)
  whole e = omega (arith, ap length (a.left ∙ e), length-drop p.put (tidy_of s), a.written)

  none_ahead : remaining s p.at p.passed ≡ [] → ahead s p ≡ []
  unfolding events_in tidy_from
  none_ahead e = ap (λ (es : List Entry). tidy_from p.last (events_in es)) e

  -- a pass that is over, no record being left to read: where it ends, and how much it put
  pub measures : reading_of (drop p.at s) ≡ None → (p.at ≡ end_of s) × (p.put ≡ length (tidy_of s)) × (p.at ≤ longest)
  unfolding end_from
  measures m =
      let none = entries_none (length s - p.at) s p.at p.passed m in
      (ap (end_from p.at) (sym none) ∙ a.ends, whole (none_ahead none), omega (arith, a.way.inside, a.way.short))

  -- in a trace that reads to its end, a record is there up to the end
  pub readable : end_of s ≡ length s → p.at < length s → Readable s p.at
  unfolding end_from
  readable w h e =
      let z = ap (end_from p.at) (sym (entries_none (length s - p.at) s p.at p.passed e)) ∙ a.ends ∙ w in
      omega (arith, z)

  pub nearer : end_of s ≡ length s → p.at < length s → length s - (further_of s p).at < length s - p.at
  nearer w h =
      ⊎_elim
      (λ (q : Reads s p.at).
      let l = placed s p.at q.body q.size q.found in
      rw (← past_found s p q.body q.size q.found y) (omega (arith, l.some, l.inside)))
      (λ e. absurd (readable w h e)) (look s p.at)

  pub reached : length s ≤ p.at → p.put ≡ length (tidy_of s)
  reached h = whole (none_to_come s p.at p.passed p.last (sym (past_end s p.at h)))
