-- A record's bytes: those of a record that was found are the ones that the definition writes for it, and as many. Assumes nothing.
use Prim.Native.Nat.{ℕ, zero, suc, ◌+◌, ◌*◌, ◌%◌, ◌≤◌, ◌<◌}
use native.Mathlib.Nat.{le_refl}
use native.Mathlib.Omega.{arith}
use mathlib.Core.Path.{◌≡◌, ◌∙◌, refl, sym, ap, ap₂, subst}
use mathlib.Core.Bool.{Bool, true, false, cond, not, ◌&&◌, ◌||◌, false≢true}
use mathlib.Core.List.{List, [], ◌∷◌, ◌++◌}
use borrow.Author.Tests.{eqb-true, eqb-false, eq-eqb, ne_eqb, leb-true}
use lib.Dec.{eqb, leb}
use lib.ListN.{length, take, get_or}
use lib.Seq.{length-take-le, slice, slice_empty, slice-cons}
use Rattle.std.specs.Prelude.{Some}
use Rattle.pins.specs.Pins.{nibble, packed}
use Rattle.words.specs.Words.{word_at}
use Rattle.words.proofs.Laws.{word_bytes}
use Rattle.record.specs.Record.{bit_of, offset, width, wait, field, present_from, sound, mapped, record_of, reading_of}
use Rattle.record.specs.Fields.{Nibbles}
use Rattle.record.specs.declared.Record.{Record}
use Rattle.record.proofs.Booleans.{both}
use Rattle.record.proofs.Pins.{seven, nibble_packed}
use Rattle.record.proofs.Records.{Bytes, Opened, opened, past_wait, sound_nibbles, found_fits}
use Rattle.tidy.specs.Tidy.{wait_bytes, field_bytes, record_bytes}
use Rattle.tidy.specs.Passage.{event_at}

-- the map's low byte without the reset has the same bits for the ports
pub low_bit : (lo k : ℕ) → k < 7 → bit_of (lo % 128) k ≡ bit_of lo k
low_bit lo =
    seven (λ (k : ℕ). bit_of (lo % 128) k ≡ bit_of lo k) (omega arith) (omega arith) (omega arith) (omega arith) (omega arith) (omega arith) (omega arith)

-- the fields of the ports from k on
module _ (s : List ℕ) (lo hi : ℕ) where
  up_to : (m k : ℕ) → k + m ≡ 7 → offset lo hi k ≤ width lo hi
  up_to zero k e = subst (λ (j : ℕ). offset lo hi j ≤ width lo hi) (let z : 7 ≡ k = omega arith in z) (le_refl (width lo hi))
  up_to (suc m) k e = omega (arith, up_to m (suc k) (omega arith))

  module _ (inside : width lo hi ≤ length s) (n : Nibbles (field s lo hi)) where
    abbrev part : ℕ → List ℕ
    part k = slice (offset lo hi k) (width lo hi) s

    one_field : (b : Bool) (k : ℕ) → k < 7 → offset lo hi (suc k) ≤ width lo hi → eqb (bit_of lo k) 1 ≡ b →
        part k ≡ cond b (cond b (get_or s (offset lo hi k) 0) 0 ∷ []) [] ++ part (suc k)
    one_field true k h u e =
        let b = eqb-true (bit_of lo k) 1 e in
        slice-cons (offset lo hi k) (width lo hi) s 0 (omega arith) inside ∙
        ap (λ (j : ℕ). get_or s (offset lo hi k) 0 ∷ slice j (width lo hi) s) (let z : suc (offset lo hi k) ≡ offset lo hi (suc k) = omega arith in z)
    one_field false k h u e =
        let b = eqb-false (bit_of lo k) 1 e in
        ap (λ (j : ℕ). slice j (width lo hi) s) (let z : offset lo hi k ≡ offset lo hi (suc k) = omega arith in z)

    fields_from : (m k : ℕ) → k + m ≡ 7 → part k ≡ field_bytes (lo % 128) (packed (field s lo hi)) k m
    fields_from zero k e = ap part (let z : k ≡ 7 = omega arith in z) ∙ slice_empty (width lo hi) s
    fields_from (suc m) k e =
        let h : k < 7 = omega arith in
        one_field (eqb (bit_of lo k) 1) k h (up_to m (suc k) (omega arith)) refl ∙
        ap (λ (x : ℕ). cond (eqb (bit_of lo k) 1) (x ∷ []) [] ++ part (suc k)) (sym (nibble_packed (field s lo hi) n k h)) ∙
        ap (λ (x : ℕ). cond (eqb x 1) (nibble (packed (field s lo hi)) k ∷ []) [] ++ part (suc k)) (sym (low_bit lo k h)) ∙
        ap (λ (l : List ℕ). cond (eqb (bit_of (lo % 128) k) 1) (nibble (packed (field s lo hi)) k ∷ []) [] ++ l) (fields_from m (suc k) (omega arith))

-- the map's low byte is the ports and the reset
low_map_lem : (lo : ℕ) (b : Bool) → lo < 256 → eqb (bit_of lo 7) 1 ≡ b → lo ≡ lo % 128 + cond b 128 0
low_map_lem lo true h e = let b = eqb-true (bit_of lo 7) 1 e in omega arith
low_map_lem lo false h e = let b = eqb-false (bit_of lo 7) 1 e in omega arith

-- the map's high byte, and the wait where it announces one
module _ (s : List ℕ) (n : ℕ) (inside : n ≤ length s) (bytes : Bytes s) where
  wait_by : (b : Bool) → eqb (get_or s 1 0) 1 ≡ b → get_or s 1 0 ≤ 1 → 2 + 2 * get_or s 1 0 ≤ n → (get_or s 1 0 ≡ 1 → word_at s 2 ≡ 0 → ⊥) →
      slice 1 n s ≡ wait_bytes (cond b (word_at s 2) 0) ++ slice (2 + 2 * get_or s 1 0) n s
  wait_by true e h l w =
      let one = eqb-true (get_or s 1 0) 1 e in
      slice-cons 1 n s 0 (omega arith) inside ∙
      ap (λ (t : List ℕ). get_or s 1 0 ∷ t) (slice-cons 2 n s 0 (omega arith) inside ∙ ap (λ (t : List ℕ). get_or s 2 0 ∷ t) (slice-cons 3 n s 0 (omega arith) inside)) ∙
      rw (ne_eqb (word_at s 2) 0 (w one))
      (let two = sym (word_bytes (get_or s 2 0) (get_or s 3 0) (bytes 2) (bytes 3)) in
      let on : 4 ≡ 2 + 2 * get_or s 1 0 = omega arith in
      λ i. one i ∷ (two i ++ slice (on i) n s))
  wait_by false e h l w =
      let none = eqb-false (get_or s 1 0) 1 e in
      let hi : get_or s 1 0 ≡ 0 = omega arith in
      let on : 2 ≡ 2 + 2 * get_or s 1 0 = omega arith in
      slice-cons 1 n s 0 (omega arith) inside ∙ (λ i. hi i ∷ slice (on i) n s)

-- a wait that is announced is not 0
announced : (hi w : ℕ) (f : ℕ → ℕ) → sound hi w f ≡ true → hi ≡ 1 → w ≡ 0 → ⊥
unfolding sound
announced hi w f h e z =
    let b = (both (eqb hi 0 || not (eqb w 0)) (present_from f 0 7) h).0 in
    let g : eqb hi 0 || not (eqb w 0) ≡ false = rw (e, z) in
    false≢true (sym g ∙ b)

-- the map's high byte is 0 or 1
pub high_map : (s : List ℕ) → mapped s ≡ true → get_or s 1 0 ≤ 1
unfolding mapped
high_map s h =
    leb-true (get_or s 1 0) 1 (both (leb (get_or s 1 0) 1) (not (eqb (word_at s 0) 0)) (both (leb 2 (length s)) (leb (get_or s 1 0) 1 && not (eqb (word_at s 0) 0)) h).1).0

module _ (s : List ℕ) (r : Record) (n d : ℕ) (bytes : Bytes s) (o : Opened s r n) where
  abbrev lo : ℕ
  lo = get_or s 0 0

  abbrev hi : ℕ
  hi = get_or s 1 0

  waited : hi ≡ 1 → word_at s 2 ≡ 0 → ⊥
  waited e z =
      announced hi (wait s hi) (field s lo hi) o.checked e (ap (λ (b : Bool). cond b (word_at s 2) 0) (eq-eqb hi 1 e) ∙ z)

  opened_bytes : take (width lo hi) s ≡ record_bytes (wait s hi) (event_at d (record_of lo (wait s hi) (field s lo hi)))
  opened_bytes =
      let l = past_wait lo hi 7 in
      slice-cons 0 (width lo hi) s 0 (omega arith) o.inside ∙
      ap₂ (λ (x : ℕ) (t : List ℕ). x ∷ t) (low_map_lem lo (eqb (bit_of lo 7) 1) (bytes 0) refl)
      (wait_by s (width lo hi) o.inside bytes (eqb hi 1) refl (high_map s o.map) l waited ∙
      ap (λ (t : List ℕ). wait_bytes (wait s hi) ++ t)
      (fields_from s lo hi o.inside (sound_nibbles (field s lo hi) hi (wait s hi) o.checked) 7 0 (omega arith)))

pub found_bytes : (s : List ℕ) (r : Record) (n d : ℕ) → Bytes s → reading_of s ≡ Some (r, n) → take n s ≡ record_bytes r.wait (event_at d r)
found_bytes s r n d h e =
    let o = opened s r n e in
    ap (λ (k : ℕ). take k s) (sym o.size) ∙ opened_bytes s r n d h o ∙ ap (λ (x : Record). record_bytes x.wait (event_at d x)) o.body

pub found_size : (s : List ℕ) (r : Record) (n d : ℕ) → Bytes s → reading_of s ≡ Some (r, n) → n ≡ length (record_bytes r.wait (event_at d r))
found_size s r n d h e = sym (length-take-le n s (found_fits s r n e).inside) ∙ ap length (found_bytes s r n d h e)

-- a wait is a number of two bytes
pub found_wait : (s : List ℕ) (r : Record) (n : ℕ) → Bytes s → reading_of s ≡ Some (r, n) → r.wait ≤ 65535
found_wait s r n h e = subst (λ (x : Record). x.wait ≤ 65535) (opened s r n e).body (fits (eqb (get_or s 1 0) 1))
  where
    fits : (b : Bool) → cond b (word_at s 2) 0 ≤ 65535
    fits true = omega (arith, h 2, h 3)
    fits false = omega arith
