-- Laws of the log for callers: what an effect that writes no port logs, and lengths.
-- Assumes nothing.
use Prim.Native.Nat.{ℕ, zero, suc, ◌+◌, ◌%◌, ◌/◌, ◌≤◌, ◌<◌}
use native.Mathlib.Omega.{arith}
use mathlib.Core.Path.{◌≡◌, ◌∙◌, refl, sym, ap}
use mathlib.Core.Bool.{Bool, true, false, cond}
use mathlib.Core.List.{List, [], ◌∷◌}
use borrow.Author.Tests.{eq-eqb, eqb-false}
use lib.ListN.{length, set, length-set, length-append, length-take, length-drop}
use lib.Seq.{get_or-set_other}
use lib.Bits.{bit_and}
use lib.Dec.{eqb}
use Rattle.chip.specs.State.{nibbles, nib_at, slot_of}
use Rattle.chip.specs.Ports.{Port, ports, port_at, outputs_of, latched_of}
use Rattle.chip.specs.Memory.{put_of}
use Rattle.registers.specs.Registers.{sp_of, stack_at, sp_low, sp_high}
use Rattle.effects.specs.declared.Effect.{Effect}
use Rattle.effects.specs.Effects.{part_of, push_kind, writes_of, puts_of, three_of, pushed_at, pushed_of, applied_to}
use Rattle.portlog.specs.Log.{written, log_record, change_of, changes_of, logged, most_logged, is_port, port_in, writes_port}

-- a nibble j of FE0H-FFFH after writes elsewhere
module _ (j : ℕ) (lo : slot_of 0xFE0 ≤ j) (hi : j < nibbles) where
  kept_set : (l : List ℕ) (i v : ℕ) → (i ≡ j → ⊥) → nib_at (set l i v) j ≡ nib_at l j
  kept_set l i v h = ap (λ (x : ℕ). x % 16) (get_or-set_other l i j v 0 (λ q. h (sym q)))

  kept_put : (l : List ℕ) (w : ℕ) → is_port w ≡ false → nib_at (put_of l w) j ≡ nib_at l j
  kept_put l w h = kept_set l (w / 16) (w % 16) (λ q. eqb-false (w / 512) 19 h (omega arith))

  one_put : (l ws : List ℕ) (w : ℕ) (b : Bool) → is_port w ≡ b → (port_in ws ≡ false → nib_at (puts_of (put_of l w) ws) j ≡ nib_at (put_of l w) j) → cond b true (port_in ws) ≡ false → nib_at (puts_of (put_of l w) ws) j ≡ nib_at l j
  one_put l ws w true q f h = absurd (let z : ◌≡◌ {A = ℕ} 0 1 = cc in omega arith)
  one_put l ws w false q f h = f h ∙ kept_put l w q

  kept_puts : (l ws : List ℕ) → port_in ws ≡ false → nib_at (puts_of l ws) j ≡ nib_at l j
  kept_puts l [] h = refl
  kept_puts l (w ∷ ws) h = one_put l ws w (is_port w) refl (kept_puts (put_of l w) ws) h

  below : (l : List ℕ) (i v : ℕ) → i < slot_of 0xFE0 → nib_at (set l i v) j ≡ nib_at l j
  below l i v h = kept_set l i v (λ q. let z : ⊥ = omega arith in z)

  kept_three : (l : List ℕ) (s x y z : ℕ) → nib_at (three_of l s x y z) j ≡ nib_at l j
  kept_three l s x y z =
      below (set (set l (stack_at s 0) (x % 16)) (stack_at s 1) (y % 16)) (stack_at s 2) (z % 16) (omega arith)
      ∙ below (set l (stack_at s 0) (x % 16)) (stack_at s 1) (y % 16) (omega arith)
      ∙ below l (stack_at s 0) (x % 16) (omega arith)

  kept_sp : (l : List ℕ) (s : ℕ) → nib_at (put_of (put_of l (sp_low s)) (sp_high s)) j ≡ nib_at l j
  kept_sp l s =
      below (put_of l (sp_low s)) (sp_high s / 16) (sp_high s % 16) (omega arith)
      ∙ below l (sp_low s / 16) (sp_low s % 16) (omega arith)

  kept_pushed : (l : List ℕ) (s b p : ℕ) → nib_at (pushed_at l s b p) j ≡ nib_at l j
  kept_pushed l s b p =
      kept_sp (three_of (three_of l s (b / 256) (b / 4096 % 4) b) (s + 3) (b / 16) p (p / 16)) s
      ∙ kept_three (three_of l s (b / 256) (b / 4096 % 4) b) (s + 3) (b / 16) p (p / 16)
      ∙ kept_three l s (b / 256) (b / 4096 % 4) b

  kept_push : (l : List ℕ) (b p : ℕ) → nib_at (pushed_of l b p) j ≡ nib_at l j
  unfolding pushed_of
  kept_push l b p = kept_pushed l ((sp_of l + 250) % 256) b p

  kept_kind : (l : List ℕ) (push : Bool) (b p : ℕ) → nib_at (cond push (pushed_of l b p) l) j ≡ nib_at l j
  kept_kind l true b p = kept_push l b p
  kept_kind l false b p = refl

  pub kept : (l : List ℕ) (e : Effect) → writes_port e ≡ false → nib_at (applied_to l e) j ≡ nib_at l j
  unfolding applied_to writes_port
  kept l e h =
      let push = eqb e.kind push_kind in
      let b = part_of e.writes 0 in
      let p = part_of e.writes 1 in
      kept_puts (cond push (pushed_of l b p) l) (writes_of e) h ∙ kept_kind l push b p

-- an effect that writes no nibble of FE0H-FFFH
module _ (l : List ℕ) (e : Effect) (unwritten : writes_port e ≡ false) where
  same_mode : (q : Port) → slot_of 0xFE0 ≤ slot_of q.mode → slot_of q.mode < nibbles → bit_and (nib_at (applied_to l e) (slot_of q.mode)) q.pins ≡ bit_and (nib_at l (slot_of q.mode)) q.pins
  same_mode q lo hi = ap (λ (x : ℕ). bit_and x q.pins) (kept (slot_of q.mode) lo hi l e unwritten)

  same_outputs : (p : ℕ) → outputs_of (applied_to l e) p ≡ outputs_of l p
  unfolding outputs_of port_at ports
  same_outputs zero = same_mode (port_at 0) (omega arith) (omega arith)
  same_outputs (suc zero) = refl
  same_outputs (suc (suc zero)) = refl
  same_outputs (suc (suc (suc zero))) = same_mode (port_at 3) (omega arith) (omega arith)
  same_outputs (suc (suc (suc (suc zero)))) = same_mode (port_at 4) (omega arith) (omega arith)
  same_outputs (suc (suc (suc (suc (suc zero))))) = same_mode (port_at 5) (omega arith) (omega arith)
  same_outputs (suc (suc (suc (suc (suc (suc zero)))))) = same_mode (port_at 6) (omega arith) (omega arith)
  same_outputs (suc (suc (suc (suc (suc (suc (suc p))))))) = refl

  -- it changes no port's driven value
  pub unwritten_driven : (p : ℕ) → p < 16 → latched_of (applied_to l e) p ≡ latched_of l p
  unfolding latched_of
  unwritten_driven p h =
      ap (λ (x : ℕ). bit_and x (outputs_of (applied_to l e) p)) (kept (slot_of 0xFF0 + p) (omega arith) (omega arith) l e unwritten)
      ∙ ap (bit_and (nib_at l (slot_of 0xFF0 + p))) (same_outputs p)

-- no record where the driven values are the same
module _ (clock : ℕ) (was is : ℕ → ℕ) where
  unchanged : (p : ℕ) → is p ≡ was p → change_of clock was is p ≡ []
  unfolding change_of
  unchanged p h = ap (λ (t : Bool). cond t [] (log_record clock p (is p))) (eq-eqb _ _ (sym h))

  pub nothing_logged : ((p : ℕ) → p < 16 → is p ≡ was p) → logged clock was is ≡ []
  unfolding logged changes_of
  nothing_logged h =
      simp (unchanged 0 (h 0 (omega arith)), unchanged 3 (h 3 (omega arith)), unchanged 4 (h 4 (omega arith)), unchanged 5 (h 5 (omega arith)), unchanged 6 (h 6 (omega arith)))

-- an effect that writes no port logs nothing
pub unwritten_logged : (clock : ℕ) (l : List ℕ) (e : Effect) → writes_port e ≡ false → logged clock (latched_of l) (latched_of (applied_to l e)) ≡ []
unwritten_logged clock l e h = nothing_logged clock (latched_of l) (latched_of (applied_to l e)) (unwritten_driven l e h)

-- nor does a step that drives what was driven
pub same_logged : (clock : ℕ) (was : ℕ → ℕ) → logged clock was was ≡ []
same_logged clock was = nothing_logged clock was was (λ p h. refl)

-- a step logs five records at most
length_change : (clock : ℕ) (was is : ℕ → ℕ) (p : ℕ) → length (change_of clock was is p) ≤ 6
unfolding change_of
length_change clock was is p = by (eqb (was p) (is p))
  where
    by : (same : Bool) → length (cond same [] (log_record clock p (is p))) ≤ 6
    by true = omega arith
    by false = omega arith

pub length_logged : (clock : ℕ) (was is : ℕ → ℕ) → length (logged clock was is) ≤ most_logged
unfolding logged changes_of
length_logged clock was is =
    simp length-append (omega (arith, length_change clock was is 0, length_change clock was is 3, length_change clock was is 4, length_change clock was is 5, length_change clock was is 6))

-- the log keeps its length, and so do the nibbles
pub length_written_at : (l : List ℕ) (e : ℕ) (w : List ℕ) → e + length w ≤ length l → length (written l e w) ≡ length l
length_written_at l e w h = simp (length-append, length-take, length-drop) (omega arith)

pub length_written : (l w : List ℕ) → length w ≤ length l → length (written l 0 w) ≡ length l
length_written l w h = length_written_at l 0 w (omega arith)

length_puts : (l ws : List ℕ) → length (puts_of l ws) ≡ length l
length_puts l [] = refl
length_puts l (w ∷ ws) = length_puts (put_of l w) ws ∙ length-set l (w / 16) (w % 16)

length_pushed : (l : List ℕ) (b p : ℕ) → length (pushed_of l b p) ≡ length l
unfolding pushed_of
length_pushed l b p = simp length-set

length_kind : (l : List ℕ) (push : Bool) (b p : ℕ) → length (cond push (pushed_of l b p) l) ≡ length l
length_kind l true b p = length_pushed l b p
length_kind l false b p = refl

pub length_applied : (l : List ℕ) (e : Effect) → length (applied_to l e) ≡ length l
unfolding applied_to
length_applied l e =
    let push = eqb e.kind push_kind in
    let b = part_of e.writes 0 in
    let p = part_of e.writes 1 in
    length_puts (cond push (pushed_of l b p) l) (writes_of e) ∙ length_kind l push b p
