-- One record further in a pass, by cases: no record, or one that was found, by the reader or again by its map. Assumes nothing.
use Prim.Native.Nat.{ℕ, ◌+◌, ◌*◌, ◌-◌, ◌%◌, ◌≤◌, ◌<◌}
use native.Mathlib.Omega.{arith}
use mathlib.Core.Path.{◌≡◌, ◌∙◌, refl, sym, ap, subst}
use mathlib.Core.Bool.{Bool, true, false, cond, not, ◌&&◌}
use mathlib.Core.List.{List, []}
use mathlib.Core.Logic.{⊎_elim}
use borrow.Author.Tests.{eqb-true, eqb-false, eq-eqb, ne_eqb}
use lib.Dec.{eqb}
use lib.ListN.{length, take, drop, get_or, length-drop}
use lib.Seq.{take_all}
use Rattle.std.specs.Prelude.{Option, Some, None}
use Rattle.record.specs.Record.{bit_of, width, reading_of}
use Rattle.record.specs.Shape.{shape_of}
use Rattle.record.specs.declared.Record.{Record}
use Rattle.record.specs.declared.Shape.{Shape}
use Rattle.record.proofs.Records.{Bytes, opened}
use Rattle.trace.specs.Trace.{never, longest}
use Rattle.trace.proofs.Entries.{Reads, look, placed, bytes_drop}
use Rattle.tidy.specs.Meaning.{only_waits}
use Rattle.tidy.specs.Tidy.{full_waits, own_wait, wait_bytes, event_bytes}
use Rattle.tidy.specs.Passage.{event_at, added_by, added_of, further_by, further_of, head_size, event_adds, past_of, Underway, Readable}
use Rattle.tidy.specs.declared.passage.Passage.{Passage}
use Rattle.tidy.proofs.Encoding.{found_size, found_wait, high_map}
use Rattle.tidy.proofs.Gaps.{record_size_lem, event_size}

-- the part of a trace from `at` on, as a loan of it is written
pub rest : (s : List ℕ) (at : ℕ) → take (length s - at) (drop at s) ≡ drop at s
rest s at = take_all (length s - at) (drop at s) (omega (arith, length-drop at s))

module _ (s : List ℕ) (p : Passage) where
  further_by_lem : (x : Option (Record × ℕ)) → reading_of (drop p.at s) ≡ x → further_of s p ≡ further_by p x
  unfolding further_of
  further_by_lem x e = ap (further_by p) e

  added_by_lem : (x : Option (Record × ℕ)) → reading_of (drop p.at s) ≡ x → added_of s p ≡ added_by p x
  unfolding added_of
  added_by_lem x e = ap (added_by p) e

  pub further_none : reading_of (drop p.at s) ≡ None → p ≡ further_of s p
  further_none e = sym (further_by_lem None e)

  pub added_none : reading_of (drop p.at s) ≡ None → added_of s p ≡ []
  added_none e = added_by_lem None e

  module _ (r : Record) (n : ℕ) (e : reading_of (drop p.at s) ≡ Some (r, n)) where
    abbrev due : ℕ
    due = p.passed + r.wait

    abbrev bytes : List ℕ
    bytes = event_bytes (due - p.last) (event_at due r)

    pub added_waits : only_waits r ≡ true → added_of s p ≡ []
    added_waits h = added_by_lem (Some (r, n)) e ∙ ap (λ (x : Bool). cond x [] bytes) h

    pub added_event : only_waits r ≡ false → added_of s p ≡ bytes
    added_event h = added_by_lem (Some (r, n)) e ∙ ap (λ (x : Bool). cond x [] bytes) h

    module _ (y : Bytes s) where
      size : n ≡ 1 + length (wait_bytes r.wait) + (n - 1 - length (wait_bytes r.wait))
      size = omega (arith, found_size (drop p.at s) r n due (bytes_drop s p.at y) e, record_size_lem r.wait (event_at due r))

      -- an event keeps all its bytes but those of its wait
      pub adds : event_adds p n r.wait ≡ length bytes
      adds =
          omega (
            arith,
            event_size (due - p.last) (event_at due r),
            found_size (drop p.at s) r n due (bytes_drop s p.at y) e,
            record_size_lem r.wait (event_at due r),
          )

      past_by : (b : Bool) → only_waits r ≡ b → past_of p n r.wait (not b) ≡
          record { at = p.at + n; passed = due; last = cond b p.last due; put = p.put + length (cond b [] bytes) }
      past_by true h =
          ap (λ (k : ℕ). record { at = p.at + n; passed = due; last = p.last; put = k })
          (let z : p.put ≡ p.put + 0 = omega arith in z)
      past_by false h = ap (λ (k : ℕ). record { at = p.at + n; passed = due; last = due; put = p.put + k }) adds

      pub past_found : past_of p n r.wait (not (only_waits r)) ≡ further_of s p
      past_found = past_by (only_waits r) refl ∙ sym (further_by_lem (Some (r, n)) e)

      -- what a pass asks of a record that it goes past
      pub may_pass : Underway s p →
          (p.at + n ≤ longest) × (p.put ≤ longest) × (p.passed + r.wait ≤ never) × (p.last ≤ p.passed) × (head_size r.wait ≤ n)
      may_pass u =
          let l = placed s p.at r n e in
          let w = found_wait (drop p.at s) r n (bytes_drop s p.at y) e in (
            omega (arith, l.inside, u.short),
            u.fits,
            omega (arith, u.short, u.inside, u.paced, w),
            u.ordered,
            omega (arith, size),
          )

-- a record only waits where its map's low byte is 0
only_by : (lo : ℕ) (a b : Bool) → lo < 256 → eqb (lo % 128) 0 ≡ a → eqb (bit_of lo 7) 1 ≡ b → not (eqb lo 0) ≡ not (a && not b)
only_by lo true true h p q = let x = eqb-true (bit_of lo 7) 1 q in rw (ne_eqb lo 0 (λ z. omega arith))
only_by lo true false h p q = let x = eqb-false (bit_of lo 7) 1 q in let v = eqb-true (lo % 128) 0 p in rw (eq-eqb lo 0 (omega arith))
only_by lo false b h p q = let v = eqb-false (lo % 128) 0 p in rw (ne_eqb lo 0 (λ z. omega arith))

-- the shape of a record that was found is the record's
pub record Shaped (t : List ℕ) (r : Record) (n : ℕ) : Type 0 where
  pub high : get_or t 1 0 ≤ 1
  pub inside : width (get_or t 0 0) (get_or t 1 0) ≤ length t
  pub size : (shape_of t).size ≡ n
  pub wait : (shape_of t).wait ≡ r.wait
  pub event : not (eqb (shape_of t).low 0) ≡ not (only_waits r)

pub shaped : (t : List ℕ) (r : Record) (n : ℕ) → Bytes t → reading_of t ≡ Some (r, n) → Shaped t r n
shaped t r n y e =
    let o = opened t r n e in
    record {
      high = high_map t o.map;
      inside = o.inside;
      size = o.size;
      wait = ap (λ (x : Record). x.wait) o.body;
      event = only_by (get_or t 0 0) _ _ (y 0) refl refl ∙ ap (λ (x : Record). not (only_waits x)) o.body;
    }

-- past an event, from what the parts of its gap were found to be
pub past_event : (p : Passage) (n w f o a k : ℕ) → f ≡ full_waits (p.passed + w - p.last) → o ≡ own_wait (p.passed + w - p.last) → a ≡ head_size o →
    k ≡ head_size w →
    record { at = p.at + n; passed = p.passed + w; last = p.passed + w; put = p.put + (4 * f + a + (n - k)) } ≡ past_of p n w true
past_event p n w f o a k ef eo ea ek =
    λ i. record {
      at = p.at + n;
      passed = p.passed + w;
      last = p.passed + w;
      put = p.put + (4 * ef i + (ea ∙ ap head_size eo) i + (n - ek i));
    }

-- a record that the reader found, read again by its map; `h` is the shape that was read of the part from there on
module _ (s : List ℕ) (p : Passage) (y : Bytes s) (q : Readable s p.at) where
  there : Reads s p.at
  there = ⊎_elim (λ (z : Reads s p.at). z) (λ e. absurd (q e)) (look s p.at)

  abbrev part : List ℕ
  part = take (length s - p.at) (drop p.at s)

  -- the same, of the part as it is lent
  lent : Shaped part there.body there.size
  lent =
      subst (λ (t : List ℕ). Shaped t there.body there.size) (sym (rest s p.at))
      (shaped (drop p.at s) there.body there.size (bytes_drop s p.at y) there.found)

  pub again_shape : (get_or part 1 0 ≤ 1) × (width (get_or part 0 0) (get_or part 1 0) ≤ length part)
  again_shape = (lent.high, lent.inside)

  module _ (h : Shape) (e : h ≡ shape_of part) where
    sized : h.size ≡ there.size
    sized = ap (λ (x : Shape). x.size) e ∙ lent.size

    waited : h.wait ≡ there.body.wait
    waited = ap (λ (x : Shape). x.wait) e ∙ lent.wait

    acts : not (eqb h.low 0) ≡ not (only_waits there.body)
    acts = ap (λ (x : Shape). not (eqb x.low 0)) e ∙ lent.event

    pub again_passes : Underway s p →
        (p.at + h.size ≤ longest) × (p.put ≤ longest) × (p.passed + h.wait ≤ never) × (p.last ≤ p.passed) × (head_size h.wait ≤ h.size)
    again_passes u =
        subst
        (λ (n : ℕ). (p.at + n ≤ longest) × (p.put ≤ longest) × (p.passed + h.wait ≤ never) × (p.last ≤ p.passed) × (head_size h.wait ≤ n))
        (sym sized)
        (subst
        (λ (w : ℕ). (p.at + there.size ≤ longest) × (p.put ≤ longest) × (p.passed + w ≤ never) × (p.last ≤ p.passed) × (head_size w ≤ there.size))
        (sym waited) (may_pass s p there.body there.size there.found y u))

    pub again_past : past_of p h.size h.wait (not (eqb h.low 0)) ≡ further_of s p
    again_past = (λ i. past_of p (sized i) (waited i) (acts i)) ∙ past_found s p there.body there.size there.found y
