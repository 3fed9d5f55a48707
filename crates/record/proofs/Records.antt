-- Laws of a record's definitions: the fields put together from the map's bits, what a sound record is, and what a record that was found says of its length.
-- Assumes nothing.
use Prim.Native.Nat.{ℕ, zero, suc, ◌+◌, ◌*◌, ◌^◌, ◌≤◌, ◌<◌}
use native.Mathlib.Omega.{arith}
use mathlib.Core.Path.{◌≡◌, ◌∙◌, refl, sym, ap, ap₂, subst}
use mathlib.Core.Bool.{Bool, true, false, cond, not, ◌&&◌, ◌||◌}
use mathlib.Core.List.{List}
use borrow.Author.Tests.{leb-true, ltb-true, eqb-true, le-leb, lt-leb, eq-eqb, ne_eqb}
use lib.Dec.{eqb, leb}
use lib.ListN.{length, get_or}
use Rattle.std.specs.Prelude.{Option, Some, None}
use Rattle.pins.specs.Pins.{pin_count, nibble}
use Rattle.words.specs.Words.{word_at}
use Rattle.record.specs.Record.{bit_of, offset, width, wait, field, present, present_from, sound, mapped, record_of, read_as, reading_of}
use Rattle.record.specs.Fields.{fields_of, port_of, Nibbles}
use Rattle.record.specs.declared.Record.{Record}
use Rattle.record.specs.declared.fields.Fields.{Fields}
use Rattle.record.proofs.Booleans.{both}
use Rattle.record.proofs.Pins.{seven, nibble_packed}

abbrev byte : List ℕ → ℕ → ℕ → ℕ
byte s at on = cond (eqb on 1) (get_or s at 0) 0

-- the fields, each read where the ones before it end
module _ (s : List ℕ) (lo hi b0 b1 b2 b3 b4 b5 b6 : ℕ) (h0 : b0 ≡ bit_of lo 0) (h1 : b1 ≡ bit_of lo 1) (h2 : b2 ≡ bit_of lo 2) (h3 : b3 ≡ bit_of lo 3)
    (h4 : b4 ≡ bit_of lo 4) (h5 : b5 ≡ bit_of lo 5) (h6 : b6 ≡ bit_of lo 6) where
  abbrev o0 : ℕ
  o0 = 2 + 2 * hi

  f1 : o0 + b0 ≡ offset lo hi 1
  f1 = ap (λ (n : ℕ). o0 + n) h0

  f2 : o0 + b0 + b1 ≡ offset lo hi 2
  f2 = ap₂ ◌+◌ f1 h1

  f3 : o0 + b0 + b1 + b2 ≡ offset lo hi 3
  f3 = ap₂ ◌+◌ f2 h2

  f4 : o0 + b0 + b1 + b2 + b3 ≡ offset lo hi 4
  f4 = ap₂ ◌+◌ f3 h3

  f5 : o0 + b0 + b1 + b2 + b3 + b4 ≡ offset lo hi 5
  f5 = ap₂ ◌+◌ f4 h4

  f6 : o0 + b0 + b1 + b2 + b3 + b4 + b5 ≡ offset lo hi 6
  f6 = ap₂ ◌+◌ f5 h5

  pub gathered : (p0 p1 p2 p3 p4 p5 p6 : ℕ) → p0 ≡ byte s o0 b0 → p1 ≡ byte s (o0 + b0) b1 → p2 ≡ byte s (o0 + b0 + b1) b2 → p3 ≡ byte s (o0 + b0 + b1 + b2) b3 →
      p4 ≡ byte s (o0 + b0 + b1 + b2 + b3) b4 → p5 ≡ byte s (o0 + b0 + b1 + b2 + b3 + b4) b5 → p6 ≡ byte s (o0 + b0 + b1 + b2 + b3 + b4 + b5) b6 →
      record { p0 = p0; p1 = p1; p2 = p2; p3 = p3; p4 = p4; p5 = p5; p6 = p6 } ≡ fields_of (field s lo hi)
  gathered p0 p1 p2 p3 p4 p5 p6 e0 e1 e2 e3 e4 e5 e6 =
      λ i. record {
        p0 = (e0 ∙ ap (byte s o0) h0) i;
        p1 = (e1 ∙ ap₂ (byte s) f1 h1) i;
        p2 = (e2 ∙ ap₂ (byte s) f2 h2) i;
        p3 = (e3 ∙ ap₂ (byte s) f3 h3) i;
        p4 = (e4 ∙ ap₂ (byte s) f4 h4) i;
        p5 = (e5 ∙ ap₂ (byte s) f5 h5) i;
        p6 = (e6 ∙ ap₂ (byte s) f6 h6) i;
      }

-- the fields of a sound record have no absent pin, and so are nibbles
module _ (f : ℕ → ℕ) where
  all_present : present_from f 0 7 ≡ true → (k : ℕ) → k < 7 → f k < 2 ^ pin_count k
  all_present h =
      let h0 = both (present f 0) (present_from f 1 6) h in
      let h1 = both (present f 1) (present_from f 2 5) h0.1 in
      let h2 = both (present f 2) (present_from f 3 4) h1.1 in
      let h3 = both (present f 3) (present_from f 4 3) h2.1 in
      let h4 = both (present f 4) (present_from f 5 2) h3.1 in
      let h5 = both (present f 5) (present_from f 6 1) h4.1 in
      let h6 = both (present f 6) (present_from f 7 0) h5.1 in
      seven (λ (k : ℕ). f k < 2 ^ pin_count k) (ltb-true (f 0) 8 h0.0) (ltb-true (f 1) 4 h1.0) (ltb-true (f 2) 16 h2.0) (ltb-true (f 3) 8 h3.0)
      (ltb-true (f 4) 16 h4.0) (ltb-true (f 5) 16 h5.0) (ltb-true (f 6) 16 h6.0)

  pub sound_present : (hi w : ℕ) → sound hi w f ≡ true → (k : ℕ) → k < 7 → f k < 2 ^ pin_count k
  unfolding sound
  sound_present hi w h = all_present (both (eqb hi 0 || not (eqb w 0)) (present_from f 0 7) h).1

  pub sound_nibbles : (hi w : ℕ) → sound hi w f ≡ true → Nibbles f
  sound_nibbles hi w h =
      let p = sound_present hi w h in
      record {
        n0 = omega (arith, p 0 (omega arith));
        n1 = omega (arith, p 1 (omega arith));
        n2 = p 2 (omega arith);
        n3 = omega (arith, p 3 (omega arith));
        n4 = p 4 (omega arith);
        n5 = p 5 (omega arith);
        n6 = p 6 (omega arith);
      }

-- every record has its map and, where it is announced, its wait
pub past_wait : (lo hi k : ℕ) → 2 + 2 * hi ≤ offset lo hi k
past_wait lo hi zero = omega arith
past_wait lo hi (suc k) = omega (arith, past_wait lo hi k)

-- the reader's cases, with the map lo, hi
module _ (s : List ℕ) (lo hi : ℕ) where
  pub cut_off : length s < width lo hi → None ≡ read_as s lo hi
  unfolding read_as
  cut_off h = rw (lt-leb (width lo hi) (length s) h)

  whole : (b : Bool) → width lo hi ≤ length s → sound hi (wait s hi) (field s lo hi) ≡ b →
      cond b (Some (record_of lo (wait s hi) (field s lo hi), width lo hi)) None ≡ read_as s lo hi
  unfolding read_as
  whole b h e = rw (le-leb (width lo hi) (length s) h, e)

  -- the same of the length, the wait and the fields that were read
  module _ (n w : ℕ) (f : Fields) (en : n ≡ width lo hi) (ew : w ≡ wait s hi) (ef : f ≡ fields_of (field s lo hi)) (fits : n ≤ length s) where
    checked : (b : Bool) → sound hi w (port_of f) ≡ b → sound hi (wait s hi) (field s lo hi) ≡ b
    unfolding sound
    checked b e =
        subst (λ (v : ℕ). sound hi v (field s lo hi) ≡ b) ew (subst (λ (g : Fields). sound hi w (port_of g) ≡ b) ef e)

    inside : width lo hi ≤ length s
    inside = subst (λ (k : ℕ). k ≤ length s) en fits

    pub read_sound : (r : Record) → sound hi w (port_of f) ≡ true → r ≡ record_of lo w (port_of f) → Some (r, n) ≡ read_as s lo hi
    read_sound r e er =
        ap₂ (λ (x : Record) (k : ℕ). Some (x, k)) (er ∙ ap (λ (v : ℕ). record_of lo v (port_of f)) ew ∙ ap (λ (g : Fields). record_of lo (wait s hi) (port_of g)) ef) en ∙
        whole true inside (checked true e)

    pub read_unsound : sound hi w (port_of f) ≡ false → None ≡ read_as s lo hi
    read_unsound e = whole false inside (checked false e)

-- the reader's cases before it has a map
module _ (s : List ℕ) where
  unmapped : mapped s ≡ false → None ≡ reading_of s
  unfolding reading_of
  unmapped e = rw e

  pub too_short : length s < 2 → None ≡ reading_of s
  unfolding mapped
  too_short h = unmapped (rw (lt-leb 2 (length s) h))

  pub high_bits : 2 ≤ length s → 1 < get_or s 1 0 → None ≡ reading_of s
  unfolding mapped
  high_bits h g = unmapped (rw (le-leb 2 (length s) h, lt-leb (get_or s 1 0) 1 g))

  pub no_bits : 2 ≤ length s → get_or s 1 0 ≤ 1 → word_at s 0 ≡ 0 → None ≡ reading_of s
  unfolding mapped
  no_bits h g e = unmapped (rw (le-leb 2 (length s) h, le-leb (get_or s 1 0) 1 g, eq-eqb (word_at s 0) 0 e))

  pub has_map : 2 ≤ length s → get_or s 1 0 ≤ 1 → (word_at s 0 ≡ 0 → ⊥) → mapped s ≡ true
  unfolding mapped
  has_map h g e = rw (le-leb 2 (length s) h, le-leb (get_or s 1 0) 1 g, ne_eqb (word_at s 0) 0 e)

  pub with_map : 2 ≤ length s → get_or s 1 0 ≤ 1 → (word_at s 0 ≡ 0 → ⊥) → read_as s (get_or s 0 0) (get_or s 1 0) ≡ reading_of s
  unfolding reading_of
  with_map h g e = rw (has_map h g e)

-- a list of bytes
abbrev pub Bytes : List ℕ → Type 0
Bytes s = (k : ℕ) → get_or s k 0 < 256

-- a record that was found, opened: the tests that it passed, and what it was put together from
pub record Opened (s : List ℕ) (r : Record) (n : ℕ) : Type 0 where
  pub map : mapped s ≡ true
  pub inside : width (get_or s 0 0) (get_or s 1 0) ≤ length s
  pub checked : sound (get_or s 1 0) (wait s (get_or s 1 0)) (field s (get_or s 0 0) (get_or s 1 0)) ≡ true
  pub body : record_of (get_or s 0 0) (wait s (get_or s 1 0)) (field s (get_or s 0 0) (get_or s 1 0)) ≡ r
  pub size : width (get_or s 0 0) (get_or s 1 0) ≡ n

-- two readings that are the same have the same record and the same length
module _ (r r' : Record) (n n' : ℕ) (e : ◌≡◌ {A = Option (Record × ℕ)} (Some (r, n)) (Some (r', n'))) where
  pub same_record : r ≡ r'
  same_record = ap (λ (x : Option (Record × ℕ)). elim x [ Some q ↦ q.0 | None ↦ r ]) e

  pub same_size : n ≡ n'
  same_size = ap (λ (x : Option (Record × ℕ)). elim x [ Some q ↦ q.1 | None ↦ n ]) e

opened_as : (s : List ℕ) (r : Record) (n : ℕ) (a b : Bool) → mapped s ≡ true → leb (width (get_or s 0 0) (get_or s 1 0)) (length s) ≡ a →
    sound (get_or s 1 0) (wait s (get_or s 1 0)) (field s (get_or s 0 0) (get_or s 1 0)) ≡ b →
    cond {A = Option (Record × ℕ)} (a && b) (Some (record_of (get_or s 0 0) (wait s (get_or s 1 0)) (field s (get_or s 0 0) (get_or s 1 0)), width (get_or s 0 0) (get_or s 1 0))) None ≡ Some (r, n) →
    Opened s r n
opened_as s r n true true m p q e = record { map = m; inside = leb-true _ _ p; checked = q; body = same_record _ _ _ _ e; size = same_size _ _ _ _ e }
opened_as s r n true false m p q e = absurd (let z : ◌≡◌ {A = ℕ} 0 1 = cc in omega arith)
opened_as s r n false b m p q e = absurd (let z : ◌≡◌ {A = ℕ} 0 1 = cc in omega arith)

opened_by : (s : List ℕ) (r : Record) (n : ℕ) (b : Bool) → mapped s ≡ b → cond b (read_as s (get_or s 0 0) (get_or s 1 0)) None ≡ Some (r, n) → Opened s r n
unfolding read_as
opened_by s r n true p e =
    opened_as s r n _ _ p refl refl e
opened_by s r n false p e = absurd (let z : ◌≡◌ {A = ℕ} 0 1 = cc in omega arith)

pub opened : (s : List ℕ) (r : Record) (n : ℕ) → reading_of s ≡ Some (r, n) → Opened s r n
unfolding reading_of
opened s r n e = opened_by s r n (mapped s) refl e

-- and the other way: what passes the tests is found
pub closed : (s : List ℕ) (r : Record) (n : ℕ) → Opened s r n → reading_of s ≡ Some (r, n)
unfolding reading_of read_as
closed s r n o = rw (o.map, le-leb (width (get_or s 0 0) (get_or s 1 0)) (length s) o.inside, o.checked) (ap₂ (λ (x : Record) (k : ℕ). Some (x, k)) o.body o.size)

-- a record that was found: it has a map at least, it lies in the list, its wait is within two bytes that it then has, and absent pins are 0
pub record Fitting (s : List ℕ) (r : Record) (n : ℕ) : Type 0 where
  pub some : 2 ≤ n
  pub inside : n ≤ length s
  pub paced : Bytes s → 4 * r.wait ≤ 65535 * n
  pub present : (k : ℕ) → k < 7 → nibble r.pins k < 2 ^ pin_count k

pace : (s : List ℕ) (hi n : ℕ) (b : Bool) → eqb hi 1 ≡ b → 2 + 2 * hi ≤ n → Bytes s → 4 * cond b (word_at s 2) 0 ≤ 65535 * n
pace s hi n true e h g = omega (arith, eqb-true hi 1 e, g 2, g 3)
pace s hi n false e h g = omega arith

map_at_least : (hi n : ℕ) → 2 + 2 * hi ≤ n → 2 ≤ n
map_at_least hi n h = omega arith

fitting : (s : List ℕ) (r : Record) (n : ℕ) → Opened s r n → Fitting s r n
fitting s r n o =
    let lo = get_or s 0 0 in
    let hi = get_or s 1 0 in
    let v = ap (λ (x : Record). x.wait) o.body in
    let u = ap (λ (x : Record). x.pins) o.body in
    let l = past_wait lo hi 7 in
    let q = o.checked in
    record {
      some = subst (λ (m : ℕ). 2 ≤ m) o.size (map_at_least hi (width lo hi) l);
      inside = subst (λ (m : ℕ). m ≤ length s) o.size o.inside;
      paced = λ g. rw (← v, ← o.size) (pace s hi (width lo hi) (eqb hi 1) refl l g);
      present =
          λ k h. subst (λ (x : ℕ). nibble x k < 2 ^ pin_count k) u
          (subst (λ (x : ℕ). x < 2 ^ pin_count k) (sym (nibble_packed (field s lo hi) (sound_nibbles (field s lo hi) hi (wait s hi) q) k h))
          (sound_present (field s lo hi) hi (wait s hi) q k h));
    }

pub found_fits : (s : List ℕ) (r : Record) (n : ℕ) → reading_of s ≡ Some (r, n) → Fitting s r n
found_fits s r n e = fitting s r n (opened s r n e)
