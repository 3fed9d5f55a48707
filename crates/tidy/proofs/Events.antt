-- An event written: the full waits of its gap, its map with the wait that is left, and its fields, which end its record and its tidy form alike.
-- Assumes nothing.
use Prim.Native.Nat.{ℕ, ◌+◌, ◌*◌, ◌-◌, ◌≤◌, ◌<◌}
use native.Mathlib.Omega.{arith}
use mathlib.Core.Path.{◌≡◌, ◌∙◌, refl, sym, ap, subst}
use mathlib.Core.Bool.{Bool, true, false, not}
use mathlib.Core.List.{List, ◌∷◌, ◌++◌}
use mathlib.Core.Logic.{⊎_elim}
use lib.ListN.{length, take, drop, get_or, length-append, length-drop}
use lib.Seq.{sets, length-sets, length-take-le, take-add, drop_at, drop-drop, get_or-drop, get_or-take}
use Rattle.std.specs.Prelude.{Some}
use Rattle.record.specs.Record.{reading_of}
use Rattle.record.specs.declared.Record.{Record}
use Rattle.record.proofs.Records.{Bytes}
use Rattle.trace.specs.Trace.{never}
use Rattle.trace.proofs.Entries.{Reads, look, placed, bytes_drop}
use Rattle.tidy.specs.Meaning.{Event, only_waits}
use Rattle.tidy.specs.Tidy.{full_waits, own_wait, wait_bytes, full_wait_bytes, field_bytes, low_map, record_bytes, event_bytes}
use Rattle.tidy.specs.Passage.{event_at, added_of, further_of, past_of, Underway}
use Rattle.tidy.specs.declared.passage.Passage.{Passage}
use Rattle.tidy.proofs.Encoding.{found_bytes, found_size, found_wait}
use Rattle.tidy.proofs.Gaps.{record_size_lem, event_size, full_size}
use Rattle.tidy.proofs.Further.{past_found, added_none, added_waits, added_event}
use Rattle.tidy.proofs.Along.{come}
use Rattle.tidy.proofs.Putting.{sets_append}

-- the record of an event where a pass stands
record Stands (s : List ℕ) (p : Passage) : Type 0 where
  body : Record
  size : ℕ
  found : reading_of (drop p.at s) ≡ Some (body, size)
  event : only_waits body ≡ false

-- a record that adds bytes is an event's
stands : (s : List ℕ) (p : Passage) → Bytes s → p.put < (further_of s p).put → Stands s p
stands s p y h =
    let c = (come s y p).1 in
    ⊎_elim
    (λ (q : Reads s p.at).
    by q (only_waits q.body) refl)
    (λ e. absurd (let z = ap length (added_none s p e) in omega (arith, z, c))) (look s p.at)
  where
    by : (q : Reads s p.at) (b : Bool) → only_waits q.body ≡ b → Stands s p
    by q false z = record { body = q.body; size = q.size; found = q.found; event = z }
    by q true z = absurd (let l = ap length (added_waits s p q.body q.size q.found z) in omega (arith, l, (come s y p).1))

-- the last k bytes of the first n are the k bytes after the others
last_of : (l x z : List ℕ) (n : ℕ) → n ≤ length l → take n l ≡ x ++ z → take (length z) (drop (n - length z) l) ≡ z
last_of l x z n h e =
    let k = length z in
    let both = ap length e in
    let len : length x ≡ n - k = omega (arith, both, length-append x z, length-take-le n l h) in
    let whole : n - k + k ≡ n = omega (arith, both, length-append x z, length-take-le n l h) in
    let cut : take (n - k) l ++ take k (drop (n - k) l) ≡ x ++ z = sym (take-add (n - k) k l) ∙ ap (λ (j : ℕ). take j l) whole ∙ e in
    sym (drop_at (take (n - k) l) (take k (drop (n - k) l)) (n - k) (length-take-le (n - k) l (omega (arith, h)))) ∙ ap (drop (n - k)) cut ∙ drop_at x z (n - k) len

module _ (s out : List ℕ) (p q : Passage) (y : Bytes s) (u : Underway s p) (further : q ≡ further_of s p) (grows : p.put < q.put) (fits : q.put ≤ length out) where
  at : Stands s p
  at = stands s p y (subst (λ (z : Passage). p.put < z.put) further grows)

  abbrev r : Record
  r = at.body

  abbrev n : ℕ
  n = at.size

  abbrev e : Event
  e = event_at (p.passed + r.wait) r

  abbrev fields : List ℕ
  fields = field_bytes e.ports e.pins 0 7

  abbrev gap : ℕ
  gap = q.passed - p.last

  past : q ≡ past_of p n r.wait (not (only_waits r))
  past = further ∙ sym (past_found s p r n at.found y)

  due : q.passed ≡ p.passed + r.wait
  due = ap (λ (z : Passage). z.passed) past

  end : q.at ≡ p.at + n
  end = ap (λ (z : Passage). z.at) past

  whole_gap : gap ≡ p.passed + r.wait - p.last
  whole_gap = ap (λ (d : ℕ). d - p.last) due

  added : added_of s p ≡ event_bytes gap e
  added = added_event s p r n at.found at.event ∙ ap (λ (g : ℕ). event_bytes g e) (sym whole_gap)

  inside : p.at + n ≤ length s
  inside = (placed s p.at r n at.found).inside

  own : take n (drop p.at s) ≡ record_bytes r.wait e
  own = found_bytes (drop p.at s) r n (p.passed + r.wait) (bytes_drop s p.at y) at.found

  -- where the event's bytes end
  ends : q.put ≡ p.put + (4 * full_waits gap + (1 + length (wait_bytes (own_wait gap)) + length fields))
  ends = ap (λ (z : Passage). z.put) further ∙ (come s y p).1 ∙ ap (λ (l : List ℕ). p.put + length l) added ∙ ap (λ (k : ℕ). p.put + k) (event_size gap e)

  size : n ≡ 1 + length (wait_bytes r.wait) + length fields
  size = found_size (drop p.at s) r n (p.passed + r.wait) (bytes_drop s p.at y) at.found ∙ record_size_lem r.wait e

  pub later : p.last ≤ q.passed
  later = omega (arith, due, u.ordered)

  pub gap_fits : gap ≤ never
  gap_fits = omega (arith, due, u.paced, u.inside, u.short, found_wait (drop p.at s) r n (bytes_drop s p.at y) at.found)

  pub map_there : p.at < length s
  map_there = omega (arith, inside, size)

  -- the map's low byte
  low : get_or s p.at 0 ≡ low_map e
  low =
      ap (λ (k : ℕ). get_or s k 0) (let z : p.at ≡ p.at + 0 = omega arith in z) ∙ sym (get_or-drop p.at s 0 0) ∙
      sym (get_or-take n (drop p.at s) 0 0 (omega (arith, size))) ∙ ap (λ (l : List ℕ). get_or l 0 0) own

  module _ (f : ℕ) (ef : f ≡ full_waits gap) where
    pub room_waits : p.put + length (full_wait_bytes f) ≤ length out
    room_waits = omega (arith, ef, full_size f, ends)

    module _ (m : ℕ) (em : m ≡ p.put + length (full_wait_bytes f)) (o : List ℕ) (eo : o ≡ sets out p.put (full_wait_bytes f)) (w : ℕ) (ew : w ≡ own_wait gap) where
      abbrev map : List ℕ
      map = get_or s p.at 0 ∷ wait_bytes w

      kept : length o ≡ length out
      kept = ap length eo ∙ length-sets out p.put (full_wait_bytes f)

      same : length (wait_bytes w) ≡ length (wait_bytes (own_wait gap))
      same = ap (λ (x : ℕ). length (wait_bytes x)) ew

      pub room_map : m + length map ≤ length o
      room_map = omega (arith, kept, same, em, ef, full_size f, ends)

      module _ (t : ℕ) (et : t ≡ m + length map) (o' : List ℕ) (eo' : o' ≡ sets o m map) where
        abbrev k : ℕ
        k = q.put - t

        long : k ≡ length fields
        long = omega (arith, et, same, em, ef, full_size f, ends)

        pub before_end : t ≤ q.put
        before_end = omega (arith, et, same, em, ef, full_size f, ends)

        pub fields_there : k ≤ q.at
        fields_there = omega (arith, long, end, size)

        pub room_fields : (q.at - k ≤ q.at) × (q.at ≤ length s) × (t + (q.at - (q.at - k)) ≤ length o')
        room_fields = (
          omega arith,
          omega (arith, end, inside),
          omega (arith, fields_there, before_end, kept, ap length eo', length-sets o m map),
        )

        -- the bytes that are copied
        copied : take (q.at - (q.at - k)) (drop (q.at - k) s) ≡ fields
        copied =
            let g : q.at - (q.at - k) ≡ length fields = omega (arith, fields_there, long) in
            let h : q.at - k ≡ p.at + (n - length fields) = omega (arith, end, long, size) in
            (λ i. take (g i) (drop (h i) s)) ∙ ap (take (length fields)) (sym (drop-drop (n - length fields) p.at s)) ∙
            last_of (drop p.at s) (low_map e ∷ wait_bytes r.wait) fields n (omega (arith, length-drop p.at s, inside, size)) own

        pub put : (z : List ℕ) → z ≡ sets o' t (take (q.at - (q.at - k)) (drop (q.at - k) s)) → z ≡ sets out p.put (added_of s p)
        put z h =
            h ∙ ap (sets o' t) copied ∙ ap (λ (l : List ℕ). sets l t fields) eo' ∙ ap (λ (j : ℕ). sets (sets o m map) j fields) et ∙
            sym (sets_append map o m fields) ∙ ap (λ (l : List ℕ). sets l m (map ++ fields)) eo ∙
            ap (λ (j : ℕ). sets (sets out p.put (full_wait_bytes f)) j (map ++ fields)) em ∙ sym (sets_append (full_wait_bytes f) out p.put (map ++ fields)) ∙
            ap (sets out p.put) ((λ i. full_wait_bytes (ef i) ++ ((low i ∷ wait_bytes (ew i)) ++ fields)) ∙ sym added)
