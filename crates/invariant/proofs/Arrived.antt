-- The records that are due keep a machine sound: pins, edges and a reset, one record after the other; the cursor then stands at a record or at
-- the trace's end.
-- Assumes nothing.
use Prim.Native.Nat.{ℕ, zero, suc, ◌+◌, ◌-◌, ◌*◌, ◌/◌, ◌%◌, ◌≤◌, ◌<◌}
use native.Mathlib.Omega.{arith}
use mathlib.Core.Path.{◌≡◌, ◌∙◌, refl, sym, ap, subst}
use mathlib.Core.Bool.{Bool, true, false, cond, ◌&&◌}
use mathlib.Core.List.{List, [], ◌∷◌}
use mathlib.Core.Logic.{◌⊎◌, inl, inr}
use borrow.Author.Tests.{le-ltb, ne_eqb, eqb-true, eqb-false}
use lib.Bits.{bit_and, or_lt}
use lib.Dec.{eqb, leb}
use lib.ListN.{length, get_or, set, drop, length-set}
use lib.Seq.{get_or-set_same, get_or-set_other}
use Rattle.std.specs.Prelude.{Option, Some, None, Ok}
use Rattle.pins.specs.Pins.{nibble}
use Rattle.chip.specs.declared.Cpu.{Cpu}
use Rattle.chip.specs.declared.Machine.{Machine}
use Rattle.image.specs.Image.{nibble_fits}
use Rattle.chip.specs.Ports.{pins_of}
use Rattle.chip.specs.Memory.{put_of}
use Rattle.chip.specs.Reset.{table_9_1, with_values, reset_registers, reset_status, reset_mem, reset_cpu}
use Rattle.chip.specs.State.{nibbles, rom0502, rom0504, nibble_at, at, slot_of, wrap_of}
use Rattle.chip.proofs.Laws.{cond_lt}
use Rattle.fetch.specs.declared.Code.{Code}
use Rattle.record.specs.declared.Record.{Record}
use Rattle.record.specs.Record.{bit_of, reading_of, pins_after}
use Rattle.record.proofs.Booleans.{both}
use Rattle.record.proofs.Pins.{after_present}
use Rattle.record.proofs.Records.{found_fits}
use Rattle.trace.specs.Trace.{due_at, scan_of, due_next}
use Rattle.trace.proofs.Ready.{ready_next, ready_past}
use Rattle.events.specs.Records.{edge_of, external_of, key_of, edges_of, moved_on, record_applied, applied_from, records_of}
use Rattle.arrivals.proofs.Arriving.{applied_cursor}
use Rattle.invariant.specs.Sound.{SoundMem, SoundPins, SoundCpu, Sound}

-- a nibble fits every place but F80H
pub fits_nibble : (i v : ℕ) → v ≤ 15 → (i ≡ slot_of 0xF80 → ⊥) → nibble_fits i v ≡ true
fits_nibble i v h g = rw (le-ltb 15 v h, ne_eqb i (slot_of 0xF80) g)

-- the nibbles after one is stored where it fits
module _ (l : List ℕ) (i v : ℕ) (h : SoundMem l) (f : nibble_fits i v ≡ true) where
  fits_by : (j : ℕ) (b : Bool) → eqb j i ≡ b → j < nibbles → nibble_fits j (get_or (set l i v) j 0) ≡ true
  fits_by j true e p =
      let q : i ≡ j = sym (eqb-true j i e) in
      let k = h.long in
      subst (λ (x : ℕ). nibble_fits x (get_or (set l i v) x 0) ≡ true) q
      (subst (λ (x : ℕ). nibble_fits i x ≡ true) (sym (get_or-set_same l i v 0 (omega arith))) f)
  fits_by j false e p = subst (λ (x : ℕ). nibble_fits j x ≡ true) (sym (get_or-set_other l i j v 0 (eqb-false j i e))) (h.fit j p)

  pub set_sound : SoundMem (set l i v)
  set_sound = record { long = length-set l i v ∙ h.long; fit = λ j p. fits_by j (eqb j i) refl p }

-- the writes of a list store nibbles that fit their places
abbrev all_fit : List ℕ → Bool
all_fit [] = true
all_fit (x ∷ xs) = nibble_fits (x / 16) (x % 16) && all_fit xs

stored_sound : (xs : List ℕ) → all_fit xs ≡ true → (l : List ℕ) → SoundMem l → SoundMem (with_values l xs)
unfolding with_values
stored_sound [] f l h = h
stored_sound (x ∷ xs) f l h =
    let g = both (nibble_fits (x / 16) (x % 16)) (all_fit xs) f in
    stored_sound xs g.1 (put_of l x) (set_sound l (x / 16) (x % 16) h g.0)

table_fit : all_fit table_9_1 ≡ true
unfolding table_9_1
table_fit = refl

-- the nibbles after a reset
registers_sound : (l : List ℕ) → SoundMem l → SoundMem (reset_registers l)
unfolding reset_registers
registers_sound l h = stored_sound table_9_1 table_fit l h

status_sound : (l : List ℕ) (b0 : ℕ) → b0 < 256 → SoundMem l → SoundMem (reset_status l b0)
unfolding reset_status
status_sound l b0 b h =
    let carry : ℕ = slot_of 0xFB1 in
    let kept : ℕ = nibble_at l 0xFB1 / 8 * 8 in
    set_sound (set l carry kept) (slot_of 0xFB0) (b0 / 64) (set_sound l carry kept h (fits_nibble carry kept (omega arith) (omega arith)))
    (fits_nibble (slot_of 0xFB0) (b0 / 64) (omega arith) (omega arith))

pub reset_sound : (l : List ℕ) (b0 : ℕ) → b0 < 256 → SoundMem l → SoundMem (reset_mem l b0)
unfolding reset_mem
reset_sound l b0 b h = status_sound (reset_registers l) b0 b (registers_sound l h)

-- the nibbles after edges
edge_small : (mode old new : ℕ) → new < 2 → edge_of mode old new < 2
edge_small mode old new h =
    cond_lt (eqb old new) 0 (cond (eqb mode 3) 0 (cond (eqb mode 2) 1 (cond (eqb mode 1) (1 - new) new))) (omega arith)
    (cond_lt (eqb mode 3) 0 (cond (eqb mode 2) 1 (cond (eqb mode 1) (1 - new) new)) (omega arith)
    (cond_lt (eqb mode 2) 1 (cond (eqb mode 1) (1 - new) new) (omega arith) (cond_lt (eqb mode 1) (1 - new) new (omega arith) h)))

external_small : (l : List ℕ) (old new : ℕ) → external_of l old new < 16
unfolding external_of
external_small l old new =
    let a = edge_small (nibble_at l 0xFB4 % 4) (old % 2) (new % 2) (omega arith) in
    let b = edge_small (nibble_at l 0xFB5 % 2) (old / 2 % 2) (new / 2 % 2) (omega arith) in
    or_lt 4 (nibble_at l 0xFBE)
    (edge_of (nibble_at l 0xFB4 % 4) (old % 2) (new % 2) + 4 * edge_of (nibble_at l 0xFB5 % 2) (old / 2 % 2) (new / 2 % 2)) (omega arith) (omega arith)

key_small : (l : List ℕ) (old new : ℕ) → key_of l old new < 16
unfolding key_of
key_small l old new =
    let t : Bool = eqb (bit_and (bit_and old (15 - new)) (nibble_at l 0xFB6 % 8)) 0 in
    or_lt 4 (nibble_at l 0xFBF) (cond t 0 1) (omega arith) (cond_lt t 0 1 (omega arith) (omega arith))

edges_sound : (l : List ℕ) (old new : ℕ) → SoundMem l → SoundMem (edges_of l old new)
unfolding edges_of
edges_sound l old new h =
    let x : ℕ = external_of l (pins_of old 1) (pins_of new 1) in
    let y : ℕ = key_of l (pins_of old 6) (pins_of new 6) in
    let p = external_small l (pins_of old 1) (pins_of new 1) in
    let q = key_small l (pins_of old 6) (pins_of new 6) in
    let external : ℕ = slot_of 0xFBE in
    let keys : ℕ = slot_of 0xFBF in
    set_sound (set l external x) keys y (set_sound l external x h (fits_nibble external x (omega (arith, p)) (omega arith)))
    (fits_nibble keys y (omega (arith, q)) (omega arith))

-- the pins after a record that was found
module _ (old : ℕ) (r : Record) where
  abbrev after : ℕ → ℕ
  after k = cond (eqb (bit_of r.ports k) 1) (nibble r.pins k) (nibble old k)

  after_small : (k : ℕ) → after k < 16
  after_small k = cond_lt (eqb (bit_of r.ports k) 1) (nibble r.pins k) (nibble old k) (omega arith) (omega arith)

  after_most : pins_after old r < 268435456
  unfolding pins_after
  after_most =
      omega (arith, after_small 0, after_small 1, after_small 2, after_small 3, after_small 4, after_small 5, after_small 6)

  pins_sound : (s : List ℕ) (k : ℕ) → reading_of s ≡ Some (r, k) → SoundPins old → SoundPins (pins_after old r)
  pins_sound s k e h =
      record { most = after_most; present = λ j p. after_present old r j p (h.present j p) ((found_fits s r k e).present j p) }

-- an address modulo the ROM's length is in the ROM
pub wrap_small : (n p : ℕ) → (n ≡ rom0502) ⊎ (n ≡ rom0504) → wrap_of n p < n
wrap_small n p (inl e) = subst (λ (x : ℕ). wrap_of x p < x) (sym e) (omega arith)
wrap_small n p (inr e) = subst (λ (x : ℕ). wrap_of x p < x) (sym e) (omega arith)

-- the scalars after a reset
pub reset_cpu_lem : (n b0 b1 : ℕ) (c : Cpu) → (n ≡ rom0502) ⊎ (n ≡ rom0504) → SoundCpu n c → SoundCpu n (reset_cpu c n b0 b1)
reset_cpu_lem n b0 b1 c r h = record {
  pc = wrap_small n (256 * (b0 % 16) + b1) r;
  smb = omega arith;
  srb = omega arith;
  mode = omega arith;
  effect = omega arith;
  release = omega arith;
  pins = h.pins;
  clock = h.clock;
  cursor = h.cursor;
  timing = omega arith;
  hold = omega arith;
}

-- the machine after a reset; v is the code at 0000H
pub reset_to_lem : (v : Code) (n : ℕ) → (n ≡ rom0502) ⊎ (n ≡ rom0504) → v.b0 < 256 → (m : Machine) → Sound n m →
    Sound n (at (reset_mem m.mem v.b0) (reset_cpu m.cpu n v.b0 v.b1))
reset_to_lem v n rom byte m h =
    record { mem = reset_sound m.mem v.b0 byte h.mem; cpu = reset_cpu_lem n v.b0 v.b1 m.cpu rom h.cpu }

-- a record
module _ (v : Code) (n : ℕ) (t : List ℕ) (rom : (n ≡ rom0502) ⊎ (n ≡ rom0504)) (byte : v.b0 < 256) where
  moved_sound : (c : Cpu) (pins k : ℕ) → SoundCpu n c → SoundPins pins → c.cursor + k ≤ 65536 → SoundCpu n (moved_on c pins k)
  moved_sound c pins k h p q = record {
    pc = h.pc;
    smb = h.smb;
    srb = h.srb;
    mode = h.mode;
    effect = h.effect;
    release = h.release;
    pins = p;
    clock = h.clock;
    cursor = omega arith;
    timing = h.timing;
    hold = h.hold;
  }

  applied_by : (b : Bool) (l : List ℕ) (c : Cpu) → SoundMem l → SoundCpu n c →
      Sound n (cond b (at (reset_mem l v.b0) (reset_cpu c n v.b0 v.b1)) (at l c))
  applied_by true l c h g = reset_to_lem v n rom byte (at l c) (record { mem = h; cpu = g })
  applied_by false l c h g = record { mem = h; cpu = g }

  -- sound, and at a record or at the end of the trace
  abbrev Stands : Machine → Type 0
  Stands m = Sound n m × ((d : ℕ) × (scan_of t m.cpu.cursor ≡ Ok d))

  module _ (m : Machine) (h : Sound n m) (d : ℕ) (s : scan_of t m.cpu.cursor ≡ Ok d) where
    record_sound : (r : Record) (k : ℕ) → reading_of (drop m.cpu.cursor t) ≡ Some (r, k) → Sound n (record_applied v n m r k)
    unfolding record_applied
    record_sound r k e =
        let p = ready_past t m.cpu.cursor d s r k e in
        applied_by r.reset (edges_of m.mem m.cpu.pins (pins_after m.cpu.pins r)) (moved_on m.cpu (pins_after m.cpu.pins r) k)
        (edges_sound m.mem m.cpu.pins (pins_after m.cpu.pins r) h.mem)
        (moved_sound m.cpu (pins_after m.cpu.pins r) k h.cpu
        (pins_sound m.cpu.pins r (drop m.cpu.cursor t) k e h.cpu.pins) (omega arith))

    pub record_stands : (r : Record) (k : ℕ) → reading_of (drop m.cpu.cursor t) ≡ Some (r, k) → Stands (record_applied v n m r k)
    record_stands r k e =
        (record_sound r k e, (due_next t (m.cpu.cursor + k) d, ap (scan_of t) (applied_cursor v n m r k) ∙ ready_next t m.cpu.cursor d s r k e))

  -- the records one after the other
  abbrev onward : ℕ → Machine → Option (Record × ℕ) → Machine
  onward most m (Some (r, k)) = applied_from most v n t (record_applied v n m r k)
  onward most m None = m

  onward_stands : (most : ℕ) (m : Machine) (b : Bool) (x : Option (Record × ℕ)) → reading_of (drop m.cpu.cursor t) ≡ x → Stands m →
      ((k : Machine) → Stands k → Stands (applied_from most v n t k)) → Stands (cond b (onward most m x) m)
  onward_stands most m true (Some (r, k)) e h next = next (record_applied v n m r k) (record_stands m h.0 h.1.0 h.1.1 r k e)
  onward_stands most m true None e h next = h
  onward_stands most m false x e h next = h

  applied_as : (most : ℕ) (m : Machine) (x : Option (Record × ℕ)) → reading_of (drop m.cpu.cursor t) ≡ x →
      applied_from (suc most) v n t m ≡ cond (leb (due_at t m.cpu.cursor) m.cpu.clock) (onward most m x) m
  unfolding applied_from
  applied_as most m (Some (r, k)) e = rw e
  applied_as most m None e = rw e

  applied_stands : (most : ℕ) (m : Machine) → Stands m → Stands (applied_from most v n t m)
  unfolding applied_from
  applied_stands zero m h = h
  applied_stands (suc most) m h =
      let x : Option (Record × ℕ) = reading_of (drop m.cpu.cursor t) in
      subst Stands (sym (applied_as most m x refl))
      (onward_stands most m (leb (due_at t m.cpu.cursor) m.cpu.clock) x refl h (λ k g. applied_stands most k g))

pub records_sound : (v : Code) (n : ℕ) (t : List ℕ) (m : Machine) (d : ℕ) → (n ≡ rom0502) ⊎ (n ≡ rom0504) → v.b0 < 256 → Sound n m →
    scan_of t m.cpu.cursor ≡ Ok d → Sound n (records_of v n t m) × ((d' : ℕ) × (scan_of t (records_of v n t m).cpu.cursor ≡ Ok d'))
unfolding records_of
records_sound v n t m d rom byte h s = applied_stands v n t rom byte (length t - m.cpu.cursor) m (h, (d, s))
