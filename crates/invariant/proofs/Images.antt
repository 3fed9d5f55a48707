-- Images and sound machines: an image that passes the field test holds a sound machine and is its image; the image of a sound machine has the image's
-- size, passes the field test and holds that machine.
-- Assumes nothing.
use Prim.Native.Nat.{ℕ, zero, suc, ◌+◌, ◌-◌, ◌*◌, ◌/◌, ◌%◌, ◌^◌, ◌≤◌, ◌<◌}
use native.Mathlib.Omega.{arith}
use native.Mathlib.Decide.{dec_le}
use native.Mathlib.Nat.{div-div-eq-div-mul}
use mathlib.Core.Path.{◌≡◌, ◌∙◌, refl, sym, ap, subst}
use mathlib.Core.Bool.{Bool, true, false, cond}
use mathlib.Core.List.{List, [], ◌∷◌, ◌++◌}
use mathlib.Core.Logic.{◌⊎◌, inl, inr}
use borrow.Author.Tests.{le-ltb, ltb-true, ltb-false}
use lib.Dec.{ltb}
use lib.ListN.{length, get_or, take, drop, length-append, length-drop, take-append-drop, get_or-append}
use lib.Seq.{length-take-le, take_at, get_or-take, get_or-drop, get_or-append-add}
use Rattle.pins.specs.Pins.{pin_count, nibble, packed}
use Rattle.words.specs.Words.{word_of, long_of, word_at, long_at, bytes_of}
use Rattle.words.proofs.Laws.{word_back, long_back, word_bytes, long_bytes}
use Rattle.chip.specs.declared.Cpu.{Cpu}
use Rattle.chip.specs.declared.Machine.{Machine}
use Rattle.chip.specs.Reset.{held_cycles}
use Rattle.chip.specs.State.{nibbles, rom0502, rom0504}
use Rattle.image.specs.Image.{image_size, at_pc, at_smb, at_srb, at_mode, at_effect, at_release, at_clock, at_cursor, at_timing, at_hold, pin_byte, pins_in, cpu_of, machine_of, scalars_of, image_of}
use Rattle.image.specs.Image.{nibble_fits, nibble_fault, Field, value_in, pin_fields, timing_fields, fields, first_over, fault_of}
use Rattle.image.proofs.Laws.{fault_field, Inside, fields_inside}
use Rattle.record.specs.Fields.{Nibbles}
use Rattle.record.proofs.Pins.{seven, nibble_packed}
use Rattle.invariant.specs.Sound.{Bytes, SoundMem, SoundPins, SoundCpu, Sound}

-- the search for a byte that is no nibble: where it comes to the end every byte is one, and the other way round
module _ (s : List ℕ) where
  nibbles_by : (k i : ℕ) (b : Bool) → nibble_fits i (get_or s i 0) ≡ b →
      (suc i + k ≤ nibble_fault k (suc i) s → (j : ℕ) → suc i ≤ j → j < suc i + k → nibble_fits j (get_or s j 0) ≡ true) →
      i + suc k ≤ cond b (nibble_fault k (suc i) s) i → (j : ℕ) → i ≤ j → j < i + suc k → nibble_fits j (get_or s j 0) ≡ true
  nibbles_by k i true e later h j p q =
      elim (dec_le (suc i) j) [
        | yes y ↦ later (omega arith) j y (omega arith)
        | no y ↦ subst (λ (x : ℕ). nibble_fits x (get_or s x 0) ≡ true) (let z : i ≡ j = omega arith in z) e
      ]
  nibbles_by k i false e later h j p q = absurd (omega arith)

  all_nibbles : (k i : ℕ) → i + k ≤ nibble_fault k i s → (j : ℕ) → i ≤ j → j < i + k → nibble_fits j (get_or s j 0) ≡ true
  unfolding nibble_fault
  all_nibbles zero i h j p q = absurd (omega arith)
  all_nibbles (suc k) i h j p q = nibbles_by k i (nibble_fits i (get_or s i 0)) refl (λ g. all_nibbles k (suc i) g) h j p q

  no_fault : (k i : ℕ) → ((j : ℕ) → i ≤ j → j < i + k → nibble_fits j (get_or s j 0) ≡ true) → nibble_fault k i s ≡ i + k
  unfolding nibble_fault
  no_fault zero i h = omega arith
  no_fault (suc k) i h =
      ap (λ (b : Bool). cond b (nibble_fault k (suc i) s) i) (h i (omega arith) (omega arith)) ∙
      no_fault k (suc i) (λ j p q. h j (omega arith) (omega arith)) ∙ omega arith

-- the fields of a list hold no more than they may
abbrev Under : List Field → List ℕ → Type 0
Under [] s = Unit {0}
Under (f ∷ fs) s = (value_in s f ≤ f.most) × Under fs s

under_by : (f : Field) (s : List ℕ) (rest : ℕ) (b : Bool) → f.offset < image_size → ltb f.most (value_in s f) ≡ b →
    cond b f.offset rest ≡ image_size → (value_in s f ≤ f.most) × (rest ≡ image_size)
under_by f s rest true p e h = absurd (omega arith)
under_by f s rest false p e h = (ltb-false f.most (value_in s f) e, h)

none_over : (fs : List Field) (s : List ℕ) → Inside fs → first_over fs s ≡ image_size → Under fs s
unfolding first_over
none_over [] s b h = tt
none_over (f ∷ fs) s b h =
    let p = under_by f s (first_over fs s) (ltb f.most (value_in s f)) b.0.1 refl h in
    (p.0, none_over fs s b.1 p.1)

-- two lists one behind the other
under_first : (fs gs : List Field) (s : List ℕ) → Under (fs ++ gs) s → Under fs s
under_first [] gs s u = tt
under_first (f ∷ fs) gs s u = (u.0, under_first fs gs s u.1)

under_then : (fs gs : List Field) (s : List ℕ) → Under (fs ++ gs) s → Under gs s
under_then [] gs s u = u
under_then (f ∷ fs) gs s u = under_then fs gs s u.1

under_both : (fs gs : List Field) (s : List ℕ) → Under fs s → Under gs s → Under (fs ++ gs) s
under_both [] gs s u v = v
under_both (f ∷ fs) gs s u v = (u.0, under_both fs gs s u.1 v)

past_fields : (fs : List Field) (s : List ℕ) → Under fs s → first_over fs s ≡ image_size
unfolding first_over
past_fields [] s u = refl
past_fields (f ∷ fs) s u =
    ap (λ (b : Bool). cond b f.offset (first_over fs s)) (le-ltb f.most (value_in s f) u.0) ∙ past_fields fs s u.1

-- what the field test says of an image that passes it
record Accepted (s : List ℕ) (n : ℕ) : Type 0 where
  fit : (j : ℕ) → j < nibbles → nibble_fits j (get_or s j 0) ≡ true
  under : Under (fields n) s

accepted_by : (s : List ℕ) (n : ℕ) (b : Bool) → ltb (nibble_fault nibbles 0 s) nibbles ≡ b →
    cond b (nibble_fault nibbles 0 s) (first_over (fields n) s) ≡ image_size → Accepted s n
accepted_by s n true p h = let z = ltb-true (nibble_fault nibbles 0 s) nibbles p in absurd (omega arith)
accepted_by s n false p h =
    let z : nibbles ≤ nibble_fault nibbles 0 s = ltb-false (nibble_fault nibbles 0 s) nibbles p in
    record {
      fit = λ j k. all_nibbles s nibbles 0 z j (omega arith) k;
      under = none_over (fields n) s (fields_inside n) h;
    }

accepted : (s : List ℕ) (n : ℕ) → fault_of s n ≡ image_size → Accepted s n
unfolding fault_of
accepted s n h = accepted_by s n (ltb (nibble_fault nibbles 0 s) nibbles) refl h

-- the pins of an image that passes the test
module _ (s : List ℕ) (u : Under pin_fields s) where
  pin_small : (k : ℕ) → k < 7 → pin_byte s k < 2 ^ pin_count k
  unfolding pin_fields
  pin_small =
      seven (λ (k : ℕ). pin_byte s k < 2 ^ pin_count k) (omega arith) (omega arith) (omega arith) (omega arith)
      (omega arith) (omega arith) (omega arith)

  pin_nibbles : Nibbles (pin_byte s)
  unfolding pin_fields
  pin_nibbles = omega arith

  pins_packed : pins_in s ≡ packed (pin_byte s)
  unfolding pins_in pin_fields
  pins_packed = omega arith

  pin_at : (k : ℕ) → k < 7 → nibble (pins_in s) k ≡ pin_byte s k
  pin_at k h = ap (λ (x : ℕ). nibble x k) pins_packed ∙ nibble_packed (pin_byte s) pin_nibbles k h

  pins_most : pins_in s < 268435456
  pins_most = let h = pin_nibbles in let e = pins_packed in omega arith

  pins_read : SoundPins (pins_in s)
  pins_read =
      record { most = pins_most; present = λ k h. subst (λ (x : ℕ). x < 2 ^ pin_count k) (sym (pin_at k h)) (pin_small k h) }

-- what a list is made of
abbrev firsts : ℕ → (ℕ → ℕ) → List ℕ
firsts zero f = []
firsts (suc k) f = f zero ∷ firsts k (λ i. f (suc i))

firsts_all : (l : List ℕ) → firsts (length l) (λ i. get_or l i 0) ≡ l
firsts_all [] = refl
firsts_all (x ∷ l) = ap (λ (t : List ℕ). x ∷ t) (firsts_all l)

-- the length of a ROM
abbrev Rom : ℕ → Type 0
Rom n = (n ≡ rom0502) ⊎ (n ≡ rom0504)

rom_size : (n : ℕ) → Rom n → (0 < n) × (n ≤ 65536)
rom_size n (inl e) = omega arith
rom_size n (inr e) = omega arith

-- an image that passes the test
module _ (s : List ℕ) (n : ℕ) (long : length s ≡ image_size) (bytes : Bytes s) (a : Accepted s n) where
  rest_long : length (drop nibbles s) ≡ image_size - nibbles
  rest_long = length-drop nibbles s ∙ omega arith

  rest : firsts (image_size - nibbles) (λ i. get_or s (nibbles + i) 0) ≡ drop nibbles s
  rest =
      sym (λ j. firsts (image_size - nibbles) (λ i. get_or-drop nibbles s i 0 j)) ∙
      ap (λ (k : ℕ). firsts k (λ i. get_or (drop nibbles s) i 0)) (sym rest_long) ∙ firsts_all (drop nibbles s)

  mem_read : SoundMem (take nibbles s)
  mem_read =
      record {
        long = length-take-le nibbles s (omega arith);
        fit = λ j h. subst (λ (x : ℕ). nibble_fits j x ≡ true) (sym (get_or-take nibbles s j 0 h)) (a.fit j h);
      }

  long_small : (i : ℕ) → long_at s i ≤ 4294967295
  long_small i = omega (arith, bytes i, bytes (i + 1), bytes (i + 2), bytes (i + 2 + 1))

  pin_fields_lem : Under pin_fields s
  unfolding fields
  pin_fields_lem = under_first pin_fields timing_fields s a.under.1.1.1.1.1.1

  timing_small : word_at s at_timing ≤ 32767
  unfolding fields timing_fields
  timing_small = (under_then pin_fields timing_fields s a.under.1.1.1.1.1.1).0

  hold_small : word_at s at_hold ≤ held_cycles
  unfolding fields timing_fields
  hold_small = (under_then pin_fields timing_fields s a.under.1.1.1.1.1.1).1.0

  cpu_read : 0 < n → SoundCpu n (cpu_of s)
  unfolding cpu_of fields
  cpu_read some =
      record {
        pc = omega (arith, a.under.0);
        smb = a.under.1.0;
        srb = a.under.1.1.0;
        mode = a.under.1.1.1.0;
        effect = a.under.1.1.1.1.0;
        release = a.under.1.1.1.1.1.0;
        pins = pins_read s pin_fields_lem;
        clock = long_small at_clock;
        cursor = long_small at_cursor;
        timing = timing_small;
        hold = hold_small;
      }

  -- the bytes of the words at i
  word_read : (i : ℕ) → bytes_of 2 (word_at s i) ≡ get_or s i 0 ∷ get_or s (i + 1) 0 ∷ []
  word_read i = word_bytes (get_or s i 0) (get_or s (i + 1) 0) (bytes i) (bytes (i + 1))

  long_read : (i : ℕ) → bytes_of 4 (long_at s i) ≡ get_or s i 0 ∷ get_or s (i + 1) 0 ∷ get_or s (i + 2) 0 ∷ get_or s (i + 2 + 1) 0 ∷ []
  long_read i =
      long_bytes (get_or s i 0) (get_or s (i + 1) 0) (get_or s (i + 2) 0) (get_or s (i + 2 + 1) 0) (bytes i) (bytes (i + 1)) (bytes (i + 2)) (bytes (i + 2 + 1))

  pin_read : (k : ℕ) → k < 7 → nibble (pins_in s) k ≡ pin_byte s k
  pin_read = pin_at s pin_fields_lem

  scalars_read : scalars_of (cpu_of s) ≡ drop nibbles s
  unfolding scalars_of cpu_of
  scalars_read =
      (λ i. word_read at_pc i ++ (get_or s at_smb 0 ∷ get_or s at_srb 0 ∷ get_or s at_mode 0 ∷ get_or s at_effect 0 ∷ get_or s at_release 0 ∷ []) ++
      (pin_read 0 (omega arith) i ∷ pin_read 1 (omega arith) i ∷ pin_read 2 (omega arith) i ∷ pin_read 3 (omega arith) i ∷
      pin_read 4 (omega arith) i ∷ pin_read 5 (omega arith) i ∷ pin_read 6 (omega arith) i ∷ []) ++
      long_read at_clock i ++ long_read at_cursor i ++ word_read at_timing i ++ word_read at_hold i) ∙ rest

pub read_sound : (s : List ℕ) (n : ℕ) → Rom n → length s ≡ image_size → Bytes s → fault_of s n ≡ image_size → Sound n (machine_of s)
read_sound s n rom long bytes h =
    let a = accepted s n h in
    record { mem = mem_read s n long bytes a; cpu = cpu_read s n long bytes a (rom_size n rom).0 }

pub image_read : (s : List ℕ) (n : ℕ) → length s ≡ image_size → Bytes s → fault_of s n ≡ image_size → image_of (machine_of s) ≡ s
image_read s n long bytes h =
    ap (λ (t : List ℕ). take nibbles s ++ t) (scalars_read s n long bytes (accepted s n h)) ∙ take-append-drop nibbles s

-- a number from its digits, each with the digits above it
digit : (x a : ℕ) → x / a ≡ x / a % 16 + 16 * (x / (a * 16))
digit x a = (let e : x / a ≡ x / a % 16 + 16 * (x / a / 16) = omega arith in e) ∙ ap (λ (y : ℕ). x / a % 16 + 16 * y) (div-div-eq-div-mul x a 16)

from_digits : (x q1 q2 q3 q4 q5 q6 r0 r1 r2 r3 r4 r5 : ℕ) → x ≡ r0 + 16 * q1 → q1 ≡ r1 + 16 * q2 → q2 ≡ r2 + 16 * q3 → q3 ≡ r3 + 16 * q4 →
    q4 ≡ r4 + 16 * q5 → q5 ≡ r5 + 16 * q6 → r0 + 16 * r1 + 256 * r2 + 4096 * r3 + 65536 * r4 + 1048576 * r5 + 16777216 * q6 ≡ x
from_digits x q1 q2 q3 q4 q5 q6 r0 r1 r2 r3 r4 r5 e0 e1 e2 e3 e4 e5 = omega arith

pub nibbles_packed : (x : ℕ) → x < 268435456 → packed (nibble x) ≡ x
nibbles_packed x h =
    let top : x / 16777216 % 16 ≡ x / 16777216 = omega arith in
    ap (λ (y : ℕ). x / 1 % 16 + 16 * (x / 16 % 16) + 256 * (x / 256 % 16) + 4096 * (x / 4096 % 16) + 65536 * (x / 65536 % 16) +
    1048576 * (x / 1048576 % 16) + 16777216 * y) top ∙
    from_digits x (x / 16) (x / 256) (x / 4096) (x / 65536) (x / 1048576) (x / 16777216) _ _ _ _ _ _ (omega arith) (digit x 16) (digit x 256)
    (digit x 4096) (digit x 65536) (digit x 1048576)

same_packed : (f g : ℕ → ℕ) → f 0 ≡ g 0 → f 1 ≡ g 1 → f 2 ≡ g 2 → f 3 ≡ g 3 → f 4 ≡ g 4 → f 5 ≡ g 5 → f 6 ≡ g 6 → packed f ≡ packed g
same_packed f g e0 e1 e2 e3 e4 e5 e6 = omega arith

-- the image of nibbles and scalars
module _ (l : List ℕ) (c : Cpu) (long : length l ≡ nibbles) where
  abbrev whole : List ℕ
  whole = l ++ scalars_of c

  scalar_at : (k : ℕ) → get_or whole (nibbles + k) 0 ≡ get_or (scalars_of c) k 0
  scalar_at k = subst (λ (n : ℕ). get_or whole (n + k) 0 ≡ get_or (scalars_of c) k 0) long (get_or-append-add l (scalars_of c) k 0)

  nibble_at_lem : (j : ℕ) → j < nibbles → get_or whole j 0 ≡ get_or l j 0
  nibble_at_lem j h = get_or-append l (scalars_of c) 0 j (omega arith)

  whole_long : length whole ≡ image_size
  unfolding scalars_of
  whole_long = length-append l (scalars_of c) ∙ omega arith

  pc_back : c.pc < 65536 → word_at whole at_pc ≡ c.pc
  unfolding scalars_of
  pc_back h = (λ i. word_of (scalar_at 0 i) (scalar_at 1 i)) ∙ word_back c.pc h

  clock_back : c.clock ≤ 4294967295 → long_at whole at_clock ≡ c.clock
  unfolding scalars_of
  clock_back h =
      (λ i. long_of (word_of (scalar_at 14 i) (scalar_at 15 i)) (word_of (scalar_at 16 i) (scalar_at 17 i))) ∙ long_back c.clock (omega arith)

  cursor_back : c.cursor ≤ 4294967295 → long_at whole at_cursor ≡ c.cursor
  unfolding scalars_of
  cursor_back h =
      (λ i. long_of (word_of (scalar_at 18 i) (scalar_at 19 i)) (word_of (scalar_at 20 i) (scalar_at 21 i))) ∙ long_back c.cursor (omega arith)

  timing_back : c.timing.basic ≤ 32767 → word_at whole at_timing ≡ c.timing.basic
  unfolding scalars_of
  timing_back h = (λ i. word_of (scalar_at 22 i) (scalar_at 23 i)) ∙ word_back c.timing.basic (omega arith)

  hold_back : c.timing.hold ≤ held_cycles → word_at whole at_hold ≡ c.timing.hold
  unfolding scalars_of
  hold_back h = (λ i. word_of (scalar_at 24 i) (scalar_at 25 i)) ∙ word_back c.timing.hold (omega arith)

  whole_timing : c.timing.basic ≤ 32767 → c.timing.hold ≤ held_cycles → Under timing_fields whole
  unfolding timing_fields
  whole_timing h g = (omega (arith, timing_back h), (omega (arith, hold_back g), tt))

  whole_pins : SoundPins c.pins → Under pin_fields whole
  unfolding pin_fields scalars_of
  whole_pins h =
      let p0 = h.present 0 (omega arith) in
      let p1 = h.present 1 (omega arith) in
      let p3 = h.present 3 (omega arith) in
      omega (arith, scalar_at 7, scalar_at 8, scalar_at 9, scalar_at 10, scalar_at 11, scalar_at 12, scalar_at 13)

  pins_back : SoundPins c.pins → pins_in whole ≡ c.pins
  unfolding scalars_of
  pins_back h =
      pins_packed whole (whole_pins h) ∙
      same_packed (pin_byte whole) (nibble c.pins) (scalar_at 7) (scalar_at 8) (scalar_at 9) (scalar_at 10) (scalar_at 11) (scalar_at 12) (scalar_at 13) ∙
      nibbles_packed c.pins h.most

  module _ (n : ℕ) (rom : Rom n) (h : SoundCpu n c) where
    pc_small : c.pc < 65536
    pc_small = omega (arith, h.pc, (rom_size n rom).1)

    cpu_back : cpu_of whole ≡ c
    unfolding cpu_of scalars_of
    cpu_back =
        λ i. record {
          pc = pc_back pc_small i;
          smb = scalar_at 2 i;
          srb = scalar_at 3 i;
          mode = scalar_at 4 i;
          effect = scalar_at 5 i;
          release = scalar_at 6 i;
          pins = pins_back h.pins i;
          clock = clock_back h.clock i;
          cursor = cursor_back h.cursor i;
          timing = record { basic = timing_back h.timing i; hold = hold_back h.hold i };
        }

    whole_fields : Under (fields n) whole
    unfolding fields scalars_of
    whole_fields = (
      omega (arith, h.pc, pc_back pc_small),
      (
        omega (arith, h.smb, scalar_at 2),
        (
          omega (arith, h.srb, scalar_at 3),
          (
            omega (arith, h.mode, scalar_at 4),
            (
              omega (arith, h.effect, scalar_at 5),
              (omega (arith, h.release, scalar_at 6), under_both pin_fields timing_fields whole (whole_pins h.pins) (whole_timing h.timing h.hold)),
            ),
          ),
        ),
      ),
    )

    whole_fits : SoundMem l → fault_of whole n ≡ image_size
    whole_fits g =
        let fits : (j : ℕ) → j < nibbles → nibble_fits j (get_or whole j 0) ≡ true =
        λ j p. subst (λ (x : ℕ). nibble_fits j x ≡ true) (sym (nibble_at_lem j p)) (g.fit j p) in
        fault_field whole n (omega (arith, no_fault whole nibbles 0 (λ j p q. fits j q))) ∙ past_fields (fields n) whole whole_fields

pub image_long : (n : ℕ) (m : Machine) → Sound n m → length (image_of m) ≡ image_size
image_long n m h = whole_long m.mem m.cpu h.mem.long

pub image_fits : (n : ℕ) (m : Machine) → Rom n → Sound n m → fault_of (image_of m) n ≡ image_size
image_fits n m rom h = whole_fits m.mem m.cpu h.mem.long n rom h.cpu h.mem

pub image_back : (n : ℕ) (m : Machine) → Rom n → Sound n m → machine_of (image_of m) ≡ m
image_back n m rom h =
    let e = h.mem.long in
    λ i. record {
      mem = take_at m.mem (scalars_of m.cpu) nibbles e i;
      cpu = cpu_back m.mem m.cpu e n rom h.cpu i;
    }
