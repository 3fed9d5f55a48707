-- What is written is read back: a record's bytes, whatever comes after them, are read as the record, and as long as they are. Every event of a trace can be
-- written so. Assumes nothing.
use Prim.Native.Nat.{ℕ, zero, suc, ◌+◌, ◌*◌, ◌-◌, ◌^◌, ◌%◌, ◌≤◌, ◌<◌}
use native.Mathlib.Omega.{arith}
use mathlib.Core.Path.{◌≡◌, ◌∙◌, refl, sym, ap, subst}
use mathlib.Core.Bool.{Bool, true, false, cond, not, ◌&&◌, false≢true}
use mathlib.Core.List.{List, [], ◌∷◌, ◌++◌, append_assoc}
use borrow.Author.Tests.{eqb-true, eqb-false, eq-eqb, ne_eqb, lt-ltb}
use lib.Dec.{eqb}
use lib.ListN.{length, drop, get_or, length-append}
use lib.Seq.{drop-drop, get_or-drop}
use Rattle.std.specs.Prelude.{Some, None}
use Rattle.pins.specs.Pins.{pin_count, nibble, packed}
use Rattle.words.specs.Words.{bytes_of}
use Rattle.words.proofs.Laws.{word_back}
use Rattle.record.specs.Record.{bit_of, offset, width, wait, field, present_from, sound, mapped, record_of, reading_of}
use Rattle.record.specs.declared.Record.{Record}
use Rattle.record.proofs.Pins.{seven, nibble_packed}
use Rattle.record.proofs.Records.{Opened, opened, closed, has_map, sound_nibbles, sound_present}
use Rattle.trace.specs.Trace.{Entry}
use Rattle.trace.proofs.Entries.{Reads, entries_none, remaining, remaining_found, at_first, everywhere}
use Rattle.tidy.specs.Meaning.{Event, only_waits, events_in, meaning_of}
use Rattle.tidy.specs.Tidy.{longest_wait, wait_bytes, field_bytes, low_map, record_bytes}
use Rattle.tidy.specs.Passage.{event_at}
use Rattle.tidy.proofs.Encoding.{low_bit}

-- the fields that are read from where written ones stand
module _ (s rest : List ℕ) (lo hi ports pins : ℕ) (bits : (k : ℕ) → k < 7 → bit_of ports k ≡ bit_of lo k) where
  abbrev tail : ℕ → ℕ → List ℕ
  tail k m = field_bytes ports pins k m ++ rest

  next : (k m : ℕ) → k < 7 → tail k (suc m) ≡ cond (eqb (bit_of lo k) 1) (nibble pins k ∷ []) [] ++ tail (suc k) m
  next k m h =
      append_assoc (cond (eqb (bit_of ports k) 1) (nibble pins k ∷ []) []) (field_bytes ports pins (suc k) m) rest ∙
      ap (λ (x : ℕ). cond (eqb x 1) (nibble pins k ∷ []) [] ++ tail (suc k) m) (bits k h)

  past_by : (b : Bool) (x : ℕ) (t : List ℕ) (k : ℕ) → eqb (bit_of lo k) 1 ≡ b → drop (offset lo hi k) s ≡ cond b (x ∷ []) [] ++ t → drop (offset lo hi (suc k)) s ≡ t
  past_by true x t k e h =
      sym (drop-drop (bit_of lo k) (offset lo hi k) s) ∙ ap (drop (bit_of lo k)) h ∙ ap (λ (n : ℕ). drop n (x ∷ t)) (eqb-true (bit_of lo k) 1 e)
  past_by false x t k e h =
      let b = eqb-false (bit_of lo k) 1 e in
      sym (drop-drop (bit_of lo k) (offset lo hi k) s) ∙ ap (drop (bit_of lo k)) h ∙ ap (λ (n : ℕ). drop n t) (let z : bit_of lo k ≡ 0 = omega arith in z)

  field_by : (b : Bool) (o x : ℕ) (t : List ℕ) → drop o s ≡ cond b (x ∷ []) [] ++ t → (b ≡ false → x ≡ 0) → cond b (get_or s o 0) 0 ≡ x
  field_by true o x t h g =
      ap (λ (n : ℕ). get_or s n 0) (let z : o ≡ o + 0 = omega arith in z) ∙ sym (get_or-drop o s 0 0) ∙ ap (λ (l : List ℕ). get_or l 0 0) h
  field_by false o x t h g = sym (g refl)

  module _ (start : drop (2 + 2 * hi) s ≡ tail 0 7) (absent : (k : ℕ) → k < 7 → bit_of ports k ≡ 0 → nibble pins k ≡ 0) where
    ahead : (k m : ℕ) → k + m ≡ 7 → drop (offset lo hi k) s ≡ tail k m
    ahead zero m e = start ∙ ap (tail 0) (let z : 7 ≡ m = omega arith in z)
    ahead (suc k) m e =
        past_by (eqb (bit_of lo k) 1) (nibble pins k) (tail (suc k) m) k refl (ahead k (suc m) (omega arith) ∙ next k m (omega arith))

    field_back : (k : ℕ) → k < 7 → field s lo hi k ≡ nibble pins k
    field_back k h =
        field_by (eqb (bit_of lo k) 1) (offset lo hi k) (nibble pins k) (tail (suc k) (6 - k)) (ahead k (suc (6 - k)) (omega arith) ∙ next k (6 - k) h)
        (λ e. let b = eqb-false (bit_of lo k) 1 e in absent k h (omega (arith, bits k h)))

  size_by : (b : Bool) (x : ℕ) (t : List ℕ) (k : ℕ) → eqb (bit_of lo k) 1 ≡ b → length (cond b (x ∷ []) [] ++ t) ≡ bit_of lo k + length t
  size_by true x t k e = let b = eqb-true (bit_of lo k) 1 e in omega arith
  size_by false x t k e = let b = eqb-false (bit_of lo k) 1 e in omega arith

  fields_size_lem : (m k : ℕ) → k + m ≡ 7 → offset lo hi k + length (field_bytes ports pins k m) ≡ width lo hi
  fields_size_lem zero k e = let z : k ≡ 7 = omega arith in omega (arith, ap (offset lo hi) z)
  fields_size_lem (suc m) k e =
      let one = size_by (eqb (bit_of lo k) 1) (nibble pins k) (field_bytes ports pins (suc k) m) k refl in
      let b = bits k (omega arith) in
      let on = fields_size_lem m (suc k) (omega arith) in
      rw b (omega arith)

-- the tests that a reader makes, and what it puts together
all_present : (f : ℕ → ℕ) → ((k : ℕ) → k < 7 → f k < 2 ^ pin_count k) → present_from f 0 7 ≡ true
all_present f p =
    rw (lt-ltb (f 0) 8 (p 0 (omega arith)), lt-ltb (f 1) 4 (p 1 (omega arith)), lt-ltb (f 2) 16 (p 2 (omega arith)), lt-ltb (f 3) 8 (p 3 (omega arith)), lt-ltb (f 4) 16 (p 4 (omega arith)), lt-ltb (f 5) 16 (p 5 (omega arith)), lt-ltb (f 6) 16 (p 6 (omega arith)))

sounds : (b : Bool) (w : ℕ) (f : ℕ → ℕ) → eqb w 0 ≡ b → ((k : ℕ) → k < 7 → f k < 2 ^ pin_count k) → sound (cond b 0 1) w f ≡ true
unfolding sound
sounds true w f e p = all_present f p
sounds false w f e p = rw e (all_present f p)

packs : (f g : ℕ → ℕ) → ((k : ℕ) → k < 7 → f k ≡ g k) → packed f ≡ packed g
packs f g h =
    omega (arith, h 0 (omega arith), h 1 (omega arith), h 2 (omega arith), h 3 (omega arith), h 4 (omega arith), h 5 (omega arith), h 6 (omega arith))

-- an event that a record can hold
pub record Writable (e : Event) : Type 0 where
  pub low : e.ports < 128
  pub whole : packed (nibble e.pins) ≡ e.pins
  pub present : (k : ℕ) → k < 7 → nibble e.pins k < 2 ^ pin_count k
  pub absent : (k : ℕ) → k < 7 → bit_of e.ports k ≡ 0 → nibble e.pins k ≡ 0

-- the map's low byte has the ports' bits, and that of the reset
low_ports : (p : ℕ) (r : Bool) → p < 128 → (p + cond r 128 0) % 128 ≡ p
low_ports p true h = omega arith
low_ports p false h = omega arith

low_reset : (p : ℕ) (r : Bool) → p < 128 → eqb (bit_of (p + cond r 128 0) 7) 1 ≡ r
low_reset p true h = eq-eqb (bit_of (p + 128) 7) 1 (omega arith)
low_reset p false h = ne_eqb (bit_of (p + 0) 7) 1 (λ z. omega arith)

abbrev pub record_for : ℕ → Event → Record
record_for w e = record { wait = w; ports = e.ports; reset = e.reset; pins = e.pins }

-- the record's bytes, with the map's high byte as the wait is 0 or not
module _ (e : Event) (v : Writable e) (w : ℕ) (rest : List ℕ) where
  abbrev fields : List ℕ
  fields = field_bytes e.ports e.pins 0 7

  abbrev bytes : Bool → List ℕ
  bytes b = low_map e ∷ (cond b (0 ∷ []) (1 ∷ bytes_of 2 w) ++ fields)

  bits : (k : ℕ) → k < 7 → bit_of e.ports k ≡ bit_of (low_map e) k
  bits k h = ap (λ (x : ℕ). bit_of x k) (sym (low_ports e.ports e.reset v.low)) ∙ low_bit (low_map e) k h

  first : (b : Bool) → drop (2 + 2 * cond b 0 1) (bytes b ++ rest) ≡ fields ++ rest
  first true = refl
  first false = refl

  waits : (b : Bool) → eqb w 0 ≡ b → w ≤ 65535 → wait (bytes b ++ rest) (cond b 0 1) ≡ w
  waits true z h = sym (eqb-true w 0 z)
  waits false z h = word_back w (omega arith)

  field_is : (b : Bool) (k : ℕ) → k < 7 → field (bytes b ++ rest) (low_map e) (cond b 0 1) k ≡ nibble e.pins k
  field_is b = field_back (bytes b ++ rest) rest (low_map e) (cond b 0 1) e.ports e.pins bits (first b) v.absent

  size : (b : Bool) → width (low_map e) (cond b 0 1) ≡ length (bytes b)
  size true = omega (arith, fields_size_lem (bytes true ++ rest) rest (low_map e) 0 e.ports e.pins bits 7 0 (omega arith))
  size false = omega (arith, fields_size_lem (bytes false ++ rest) rest (low_map e) 1 e.ports e.pins bits 7 0 (omega arith))

  inside : (b : Bool) → width (low_map e) (cond b 0 1) ≤ length (bytes b ++ rest)
  inside b = omega (arith, size b, length-append (bytes b) rest)

  module _ (h : w ≤ 65535) (some : low_map e ≡ 0 → w ≡ 0 → ⊥) where
    maps : (b : Bool) → eqb w 0 ≡ b → mapped (bytes b ++ rest) ≡ true
    maps true z = has_map (bytes true ++ rest) (omega arith) (omega arith) (λ n. some (omega arith) (eqb-true w 0 z))
    maps false z = has_map (bytes false ++ rest) (omega arith) (omega arith) (λ n. omega arith)

    checked : (b : Bool) → eqb w 0 ≡ b → sound (cond b 0 1) (wait (bytes b ++ rest) (cond b 0 1)) (field (bytes b ++ rest) (low_map e) (cond b 0 1)) ≡ true
    checked b z =
        subst (λ (x : ℕ). sound (cond b 0 1) x (field (bytes b ++ rest) (low_map e) (cond b 0 1)) ≡ true) (sym (waits b z h))
        (sounds b w (field (bytes b ++ rest) (low_map e) (cond b 0 1)) z
        (λ k l. subst (λ (x : ℕ). x < 2 ^ pin_count k) (sym (field_is b k l)) (v.present k l)))

    body : (b : Bool) → eqb w 0 ≡ b →
        record_of (low_map e) (wait (bytes b ++ rest) (cond b 0 1)) (field (bytes b ++ rest) (low_map e) (cond b 0 1)) ≡ record_for w e
    body b z =
        λ i. record {
          wait = waits b z h i;
          ports = low_ports e.ports e.reset v.low i;
          reset = low_reset e.ports e.reset v.low i;
          pins = (packs (field (bytes b ++ rest) (low_map e) (cond b 0 1)) (nibble e.pins) (field_is b) ∙ v.whole) i;
        }

    read_by : (b : Bool) → eqb w 0 ≡ b → Opened (bytes b ++ rest) (record_for w e) (length (bytes b))
    read_by true z = record { map = maps true z; inside = inside true; checked = checked true z; body = body true z; size = size true }
    read_by false z = record { map = maps false z; inside = inside false; checked = checked false z; body = body false z; size = size false }

    pub read_back : reading_of (record_bytes w e ++ rest) ≡ Some (record_for w e, length (record_bytes w e))
    read_back = closed (record_bytes w e ++ rest) (record_for w e) (length (record_bytes w e)) (read_by (eqb w 0) refl)

-- a wait-only record, of the longest wait
abbrev pub full_wait : Record
full_wait = record { wait = longest_wait; ports = 0; reset = false; pins = 0 }

abbrev idle : Event
idle = record { due = 0; ports = 0; pins = 0; reset = false }

idle_writable : Writable idle
idle_writable =
    record {
      low = omega arith;
      whole = refl;
      present =
          seven (λ (k : ℕ). nibble 0 k < 2 ^ pin_count k) (omega arith) (omega arith) (omega arith) (omega arith) (omega arith) (omega arith) (omega arith);
      absent = λ k h z. seven (λ (j : ℕ). nibble 0 j ≡ 0) refl refl refl refl refl refl refl k h;
    }

pub wait_back : (rest : List ℕ) → reading_of ((0 ∷ wait_bytes longest_wait) ++ rest) ≡ Some (full_wait, 4)
wait_back rest = read_back idle idle_writable longest_wait rest (omega arith) (λ z n. omega arith)

-- what was read can be written
found_writable : (s : List ℕ) (r : Record) (n d : ℕ) → reading_of s ≡ Some (r, n) → Writable (event_at d r)
found_writable s r n d e =
    let o = opened s r n e in
    let lo = get_or s 0 0 in
    let hi = get_or s 1 0 in
    let f = field s lo hi in
    let nibbles = nibble_packed f (sound_nibbles f hi (wait s hi) o.checked) in
    subst (λ (x : Record). Writable (event_at d x)) o.body
    (record {
      low = omega arith;
      whole = packs (nibble (packed f)) f nibbles;
      present = λ k h. subst (λ (x : ℕ). x < 2 ^ pin_count k) (sym (nibbles k h)) (sound_present f hi (wait s hi) o.checked k h);
      absent =
          λ k h z. nibbles k h ∙
          ap (λ (b : Bool). cond b (get_or s (offset lo hi k) 0) 0) (ne_eqb (bit_of lo k) 1 (λ one. omega (arith, low_bit lo k h)));
    })

-- an event of a trace: a record can hold it, and it has a port or a reset
pub record SoundEvent (e : Event) : Type 0 where
  pub writable : Writable e
  pub some : low_map e ≡ 0 → ⊥

-- events one after the other, from a due time on
abbrev pub Rising : ℕ → List Event → Type 0
Rising last [] = Unit
Rising last (e ∷ es) = SoundEvent e × (last ≤ e.due) × Rising e.due es

not_only : (p : ℕ) (b : Bool) → eqb p 0 && not b ≡ false → p + cond b 128 0 ≡ 0 → ⊥
not_only p true h z = omega arith
not_only p false h z = let e : eqb p 0 && true ≡ true = rw (eq-eqb p 0 (omega arith)) in false≢true (sym h ∙ e)

-- the events of a trace are so
module _ (s : List ℕ) where
  abbrev RisingAt : ℕ → ℕ → Type 0
  RisingAt at passed = (last : ℕ) → last ≤ passed → Rising last (events_in (remaining s at passed))

  rising_none : (at passed : ℕ) → reading_of (drop at s) ≡ None → RisingAt at passed
  unfolding events_in
  rising_none at passed e last h = subst (λ (es : List Entry). Rising last (events_in es)) (sym (entries_none (length s - at) s at passed e)) tt

  rising_by : (at passed : ℕ) (q : Reads s at) (es : List Event) (b : Bool) → only_waits q.body ≡ b →
      ((last : ℕ) → last ≤ passed + q.body.wait → Rising last es) → (last : ℕ) → last ≤ passed →
      Rising last (cond b es (event_at (passed + q.body.wait) q.body ∷ es))
  rising_by at passed q es true o later last h = later last (omega arith)
  rising_by at passed q es false o later last h = (
    record { writable = found_writable (drop at s) q.body q.size (passed + q.body.wait) q.found; some = not_only q.body.ports q.body.reset o },
    omega arith,
    later (passed + q.body.wait) (omega arith),
  )

  rising_found : (at passed : ℕ) (q : Reads s at) → RisingAt (at + q.size) (passed + q.body.wait) → RisingAt at passed
  unfolding events_in
  rising_found at passed q later last h =
      subst (λ (es : List Entry). Rising last (events_in es)) (sym (remaining_found s at passed q.body q.size q.found))
      (rising_by at passed q (events_in (remaining s (at + q.size) (passed + q.body.wait))) (only_waits q.body) refl later last h)

  pub meaning_rises : Rising 0 (meaning_of s)
  meaning_rises = subst (λ (es : List Entry). Rising 0 (events_in es)) (at_first s) (everywhere s RisingAt rising_none rising_found 0 0 0 (omega arith))
