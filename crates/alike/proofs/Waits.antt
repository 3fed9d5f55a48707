-- A record that only waits changes nothing but the cursor; a record with ports or a reset does the same whatever its wait and its place in the trace are.
-- Assumes nothing.
use Prim.Native.Nat.{ℕ, zero, suc, ◌-◌, ◌%◌, ◌/◌, ◌≤◌, ◌<◌}
use native.Mathlib.Omega.{arith}
use native.Mathlib.Decide.{dec_le}
use mathlib.Core.Path.{◌≡◌, ◌∙◌, refl, sym, ap, subst}
use mathlib.Core.Bool.{Bool, true, false, cond, not, ◌&&◌}
use mathlib.Core.List.{List}
use borrow.Author.Tests.{eq-eqb, eqb-true, ltb-false}
use lib.Bits.{bit_and, and_zero_l, or_zero_r}
use lib.Dec.{eqb, ltb}
use lib.ListN.{get_or, set}
use lib.Seq.{set-get_or}
use Rattle.pins.specs.Pins.{nibble, packed}
use Rattle.chip.specs.declared.Cpu.{Cpu}
use Rattle.chip.specs.declared.Machine.{Machine}
use Rattle.chip.specs.Ports.{pins_of}
use Rattle.chip.specs.Reset.{reset_mem, reset_cpu}
use Rattle.chip.specs.Scalars.{with_pins, with_cursor}
use Rattle.chip.specs.State.{nibbles, nibble_at, at, slot_of}
use Rattle.fetch.specs.declared.Code.{Code}
use Rattle.record.specs.declared.Record.{Record}
use Rattle.record.specs.Record.{bit_of, pins_after}
use Rattle.record.proofs.Booleans.{both}
use Rattle.events.specs.Records.{external_of, key_of, edges_of, moved_on, record_applied}
use Rattle.trace.specs.Trace.{Entry}
use Rattle.tidy.specs.Meaning.{Event, only_waits, event_of}
use Rattle.invariant.specs.Sound.{SoundMem, Sound}
use Rattle.invariant.proofs.Images.{nibbles_packed}
use Rattle.alike.proofs.Unseen.{but}

-- a nibble and its complement have no bit in common: every nibble below k, by a test
abbrev apart_to : ℕ → Bool
apart_to zero = true
apart_to (suc k) = eqb (bit_and k (15 - k)) 0 && apart_to k

apart_to_lem : (k : ℕ) → apart_to k ≡ true → (x : ℕ) → x < k → bit_and x (15 - x) ≡ 0
apart_to_lem zero h x p = absurd (omega arith)
apart_to_lem (suc k) h x p =
    let g = both (eqb (bit_and k (15 - k)) 0) (apart_to k) h in
    elim (dec_le (suc x) k) [
      | yes y ↦ apart_to_lem k g.1 x y
      | no y ↦ subst (λ (z : ℕ). bit_and z (15 - z) ≡ 0) (let z : k ≡ x = omega arith in z) (eqb-true (bit_and k (15 - k)) 0 g.0)
    ]

apart : (x : ℕ) → x < 16 → bit_and x (15 - x) ≡ 0
apart x h = apart_to_lem 16 refl x h

-- pins that stay have no edge
same_external : (l : List ℕ) (x : ℕ) → external_of l x x ≡ nibble_at l 0xFBE
unfolding external_of
same_external l x = rw (eq-eqb (x % 2) (x % 2) refl, eq-eqb (x / 2 % 2) (x / 2 % 2) refl) (or_zero_r (nibble_at l 0xFBE))

same_key : (l : List ℕ) (x : ℕ) → x < 16 → key_of l x x ≡ nibble_at l 0xFBF
unfolding key_of
same_key l x h = rw (apart x h, and_zero_l (nibble_at l 0xFB6 % 8)) (or_zero_r (nibble_at l 0xFBF))

-- a nibble that is stored again
pub fits_small : (i v : ℕ) (b : Bool) → ltb 15 v ≡ b → cond b false (cond (eqb i (slot_of 0xF80)) (eqb (v % 2) 0) true) ≡ true → v ≤ 15
fits_small i v true e h = absurd (let z : ◌≡◌ {A = ℕ} 0 1 = cc in omega arith)
fits_small i v false e h = ltb-false 15 v e

again : (l : List ℕ) (i : ℕ) → i < nibbles → SoundMem l → set l i (get_or l i 0 % 16) ≡ l
again l i p h =
    let q = fits_small i (get_or l i 0) (ltb 15 (get_or l i 0)) refl (h.fit i p) in
    ap (set l i) (let z : get_or l i 0 % 16 ≡ get_or l i 0 = omega arith in z) ∙ set-get_or l i 0

same_edges : (l : List ℕ) (pins : ℕ) → SoundMem l → edges_of l pins pins ≡ l
unfolding edges_of
same_edges l pins h =
    ap (λ (x : ℕ). set (set l (slot_of 0xFBE) x) (slot_of 0xFBF) (key_of l (pins_of pins 6) (pins_of pins 6))) (same_external l (pins_of pins 1)) ∙
    ap (λ (k : List ℕ). set k (slot_of 0xFBF) (key_of l (pins_of pins 6) (pins_of pins 6))) (again l (slot_of 0xFBE) (omega arith) h) ∙
    ap (set l (slot_of 0xFBF)) (same_key l (pins_of pins 6) (omega arith)) ∙ again l (slot_of 0xFBF) (omega arith) h

-- a record without a port leaves the pins
same_pins : (old : ℕ) (r : Record) → r.ports ≡ 0 → old < 268435456 → pins_after old r ≡ old
unfolding pins_after
same_pins old r e h =
    ap (λ (p : ℕ). packed (λ k. cond (eqb (bit_of p k) 1) (nibble r.pins k) (nibble old k))) e ∙ nibbles_packed old h

unset : (b : Bool) → not b ≡ true → b ≡ false
unset true h = sym h
unset false h = refl

-- the record of an event: no wait
abbrev pub body_of : Event → Record
body_of x = record { wait = 0; ports = x.ports; reset = x.reset; pins = x.pins }

-- a record of the trace where it stands; v is the code at 0000H and n the ROM's length
module _ (v : Code) (n : ℕ) (m : Machine) (e : Entry) where
  abbrev r : Record
  r = e.body

  abbrev pins : ℕ
  pins = pins_after m.cpu.pins r

  abbrev with_reset : Bool → List ℕ → Cpu → Machine
  with_reset b l c = cond b (at (reset_mem l v.b0) (reset_cpu c n v.b0 v.b1)) (at l c)

  reset_but : (b : Bool) (l : List ℕ) (c : Cpu) → but (with_reset b l c) 0 ≡ with_reset b l (with_cursor c 0)
  reset_but true l c = refl
  reset_but false l c = refl

  pub wait_but : Sound n m → only_waits r ≡ true → but (record_applied v n m r e.size) 0 ≡ but m 0
  unfolding record_applied
  wait_but h o =
      let w = both (eqb r.ports 0) (not r.reset) o in
      let stays : pins ≡ m.cpu.pins = same_pins m.cpu.pins r (eqb-true r.ports 0 w.0) h.cpu.pins.most in
      ap (λ (b : Bool). but (with_reset b (edges_of m.mem m.cpu.pins pins) (moved_on m.cpu pins e.size)) 0) (unset r.reset w.1) ∙
      ap (λ (p : ℕ). at (edges_of m.mem m.cpu.pins p) (with_cursor (with_pins m.cpu p) 0)) stays ∙
      ap (λ (l : List ℕ). at l (with_cursor m.cpu 0)) (same_edges m.mem m.cpu.pins h.mem)

  pub event_but : but (record_applied v n m r e.size) 0 ≡ record_applied v n (but m 0) (body_of (event_of e)) 0
  unfolding record_applied pins_after
  event_but = reset_but r.reset (edges_of m.mem m.cpu.pins pins) (moved_on m.cpu pins e.size)
