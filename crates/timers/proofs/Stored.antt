-- What the code makes of a machine's nibbles is what Registers.antt, Rates.antt and `still_of` say of them.
-- Assumes nothing.
use Prim.Native.Nat.{ℕ, ◌+◌, ◌*◌, ◌%◌, ◌/◌, ◌^◌, ◌≤◌, ◌<◌}
use native.Mathlib.Omega.{arith}
use native.Mathlib.Nat.{mul-le-mul_left}
use mathlib.Core.Path.{◌≡◌, ◌∙◌, sym, ap, subst}
use mathlib.Core.Bool.{Bool, true, false, cond, not}
use mathlib.Core.List.{List}
use lib.Dec.{eqb, ltb}
use lib.ListN.{get_or, set}
use borrow.Author.Tests.{eq-eqb, ne_eqb, lt-ltb, le-ltb}
use Rattle.chip.specs.State.{nibble_at, slot_of}
use Rattle.timers.specs.declared.Timers.{Timers}
use Rattle.timers.specs.Taps.{tap_of}
use Rattle.timers.specs.Rates.{table_6_1}
use Rattle.timers.specs.Clock.{Ranged}
use Rattle.timers.specs.Registers.{bmod_of, bcnt_of, irqb_of, watched_in, timers_in, with_bmod, with_bcnt, with_irqb, stored_in}
use Rattle.timers.specs.Closed.{still_of}
use Rattle.timers.proofs.Held.{timers_in_range}

module _ (l : List ℕ) (v : ℕ) (bmod bcnt flags : ℕ) (w : Bool) (eb : bmod ≡ bmod_of l) (ec : bcnt ≡ bcnt_of l) (ew : w ≡ watched_in l) (ef : flags ≡ nibble_at l 0xFB8) where
  pub timers_made : ◌≡◌ {A = Timers} (record {
    bmod = bmod;
    bcnt = bcnt;
    watched = w;
    irqb = flags % 2;
    phase = v % 4096;
    count = v / 4096 % 8;
  }) (timers_in l v)
  unfolding timers_in
  timers_made = λ i. record {
    bmod = eb i;
    bcnt = ec i;
    watched = ew i;
    irqb = ef i % 2;
    phase = v % 4096;
    count = v / 4096 % 8;
  }

pub as_ranged : {t : Timers} (l : List ℕ) (v : ℕ) → t ≡ timers_in l v → Ranged t
as_ranged l v e = subst Ranged (sym e) (timers_in_range l v)

-- WDMOD's two nibbles
pub watched_made : (l : List ℕ) (a b : ℕ) → a ≡ nibble_at l 0xF98 → b ≡ nibble_at l 0xF99 → not (eqb (a + 16 * b) 0x5A) ≡ watched_in l
watched_made l a b ea eb = ap (λ (x : ℕ). not (eqb (x + 16 * b) 0x5A)) ea ∙ ap (λ (x : ℕ). not (eqb (nibble_at l 0xF98 + 16 * x) 0x5A)) eb

-- a register that differs is written, and one that stands isn't
module _ (l : List ℕ) (b x : ℕ) where
  pub bmod_put : x ≡ bmod_of l → (b ≡ x → ⊥) → set l (slot_of 0xF85) b ≡ with_bmod l b
  bmod_put e h = sym (ap (λ (t : Bool). cond t l (set l (slot_of 0xF85) b)) (ne_eqb b (bmod_of l) (λ q. h (q ∙ sym e))))

  pub bmod_stays : x ≡ bmod_of l → b ≡ x → l ≡ with_bmod l b
  bmod_stays e h = sym (ap (λ (t : Bool). cond t l (set l (slot_of 0xF85) b)) (eq-eqb b (bmod_of l) (h ∙ e)))

  pub bcnt_put : x ≡ bcnt_of l → (b ≡ x → ⊥) → set (set l (slot_of 0xF86) (b % 16)) (slot_of 0xF87) (b / 16) ≡ with_bcnt l b
  bcnt_put e h = sym (ap (λ (t : Bool). cond t l (set (set l (slot_of 0xF86) (b % 16)) (slot_of 0xF87) (b / 16))) (ne_eqb b (bcnt_of l) (λ q. h (q ∙ sym e))))

  pub bcnt_stays : x ≡ bcnt_of l → b ≡ x → l ≡ with_bcnt l b
  bcnt_stays e h = sym (ap (λ (t : Bool). cond t l (set (set l (slot_of 0xF86) (b % 16)) (slot_of 0xF87) (b / 16))) (eq-eqb b (bcnt_of l) (h ∙ e)))

  pub irqb_put : x ≡ nibble_at l 0xFB8 → (b ≡ x % 2 → ⊥) → set l (slot_of 0xFB8) (x / 2 * 2 + b) ≡ with_irqb l b
  irqb_put e h =
      ap (λ (y : ℕ). set l (slot_of 0xFB8) (y / 2 * 2 + b)) e ∙
      sym (ap (λ (t : Bool). cond t l (set l (slot_of 0xFB8) (nibble_at l 0xFB8 / 2 * 2 + b))) (ne_eqb b (irqb_of l) (λ q. h (q ∙ ap (λ (y : ℕ). y % 2) (sym e)))))

  pub irqb_stays : x ≡ nibble_at l 0xFB8 → b ≡ x % 2 → l ≡ with_irqb l b
  irqb_stays e h = sym (ap (λ (t : Bool). cond t l (set l (slot_of 0xFB8) (nibble_at l 0xFB8 / 2 * 2 + b))) (eq-eqb b (irqb_of l) (h ∙ ap (λ (y : ℕ). y % 2) e)))

-- Table 6-1's last row, which the code doesn't name
pub rate_last : (i : ℕ) → (i % 4 ≡ 0 → ⊥) → (i % 4 ≡ 1 → ⊥) → (i % 4 ≡ 2 → ⊥) → 4 ≡ get_or table_6_1 (i % 4) 64
unfolding table_6_1
rate_last i a b c = let e : i % 4 ≡ 3 = omega arith in ap (λ (x : ℕ). get_or table_6_1 x 64) (sym e)

-- a step's clocks
pub clocks_small : (c r : ℕ) → c < 4294967296 → r ≤ 64 → c * r ≤ 274877906944
clocks_small c r h g = let z : c * r ≤ c * 64 = mul-le-mul_left c g in omega arith

-- whether clocks move the phase alone
module _ (l : List ℕ) (w n b : ℕ) (eb : b ≡ bmod_of l) where
  pub still_bmod : 8 ≤ b → false ≡ still_of l w n
  unfolding still_of
  still_bmod h = rw (le-ltb (bmod_of l) 8 (subst (λ (x : ℕ). 8 ≤ x) eb h))

  below : b < 8 → ltb (bmod_of l) 8 ≡ true
  below h = lt-ltb (bmod_of l) 8 (subst (λ (x : ℕ). x < 8) eb h)

  pub still_ticks : b < 8 → (x k : ℕ) → x ≡ w → k ≡ tap_of b → eqb ((x + n) / 2 ^ k) (x / 2 ^ k) ≡ still_of l w n
  unfolding still_of
  still_ticks h x k e ek =
      rw (below h)
      (ap (λ (y : ℕ). eqb ((y + n) / 2 ^ k) (y / 2 ^ k)) e ∙ ap (λ (y : ℕ). eqb ((w + n) / 2 ^ y) (w / 2 ^ y)) (ek ∙ ap tap_of eb))

-- the nibbles with the timers stored, register by register
pub timers_put : (l : List ℕ) {x y z : List ℕ} (t : Timers) → x ≡ with_bmod l t.bmod → y ≡ with_bcnt x t.bcnt → z ≡ with_irqb y t.irqb → z ≡ stored_in l t
unfolding stored_in
timers_put l t ex ey ez = ez ∙ ap (λ (k : List ℕ). with_irqb k t.irqb) (ey ∙ ap (λ (k : List ℕ). with_bcnt k t.bcnt) ex)
