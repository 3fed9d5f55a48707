-- What a machine holds of its timers: it gives back what was stored, its other nibbles and what it drives stay, and two quiet stretches are one.
-- Assumes nothing.
use Prim.Native.Nat.{ℕ, zero, suc, ◌+◌, ◌*◌, ◌%◌, ◌/◌, ◌≤◌, ◌<◌}
use native.Mathlib.Omega.{arith}
use native.Mathlib.Nat.{mod-eq_of_lt}
use mathlib.Core.Path.{◌≡◌, ◌∙◌, refl, sym, ap}
use mathlib.Core.Bool.{Bool, true, false, cond, not}
use mathlib.Core.List.{List}
use lib.Bits.{bit_and}
use lib.Dec.{eqb}
use lib.ListN.{length, set, length-set}
use lib.Seq.{get_or-set_same, get_or-set_other, set-set, set_comm}
use borrow.Author.Tests.{eqb-true, eqb-false, eq-eqb, ne_eqb}
use Rattle.chip.specs.declared.Machine.{Machine}
use Rattle.chip.specs.Scalars.{with_basic}
use Rattle.chip.specs.State.{at, nibbles, nib_at, nibble_at, slot_of}
use Rattle.chip.specs.Ports.{Port, ports, port_at, outputs_of, latched_of}
use Rattle.timers.specs.declared.Timers.{Timers}
use Rattle.timers.specs.Clock.{quiet_of, Ranged}
use Rattle.timers.specs.Clears.{restarted, cleared_of}
use Rattle.timers.specs.Registers.{bmod_of, bcnt_of, irqb_of, watched_in, timers_in, timers_of, with_bmod, with_bcnt, with_irqb, basic_of, stored_in, with_timers}
use Rattle.timers.specs.Closed.{quiet_state_of}
use Rattle.timers.proofs.Quiet.{quiet_first, quiet_ranged, quiet_rises, quiet_join}

-- a machine's timers are in their ranges, and stay there when they are restarted or cleared
pub timers_in_range : (l : List ℕ) (w : ℕ) → Ranged (timers_in l w)
unfolding timers_in
timers_in_range l w = record {
  bmod = omega arith;
  bcnt = omega arith;
  irqb = omega arith;
  phase = omega arith;
  count = omega arith;
}

pub timers_ranged : (m : Machine) → Ranged (timers_of m)
timers_ranged m = timers_in_range m.mem m.cpu.timing.basic

uncounted_ranged : (clear : Bool) (s : Timers) → Ranged s → Ranged (cleared_of false clear s)
unfolding cleared_of
uncounted_ranged true s r = record {
  bmod = r.bmod;
  bcnt = r.bcnt;
  irqb = r.irqb;
  phase = r.phase;
  count = omega arith;
}
uncounted_ranged false s r = r

restarted_ranged : (t : Timers) → Ranged t → Ranged (restarted t)
restarted_ranged t r = record {
  bmod = omega arith;
  bcnt = omega arith;
  irqb = omega arith;
  phase = r.phase;
  count = r.count;
}

pub cleared_ranged : (restart clear : Bool) (t : Timers) → Ranged t → Ranged (cleared_of restart clear t)
unfolding cleared_of
cleared_ranged true clear t r = uncounted_ranged clear (restarted t) (restarted_ranged t r)
cleared_ranged false clear t r = uncounted_ranged clear t r

-- the writes of a register: the length, the other nibbles, and the register itself
length_by : (s : Bool) (l k : List ℕ) → length k ≡ length l → length (cond s l k) ≡ length l
length_by true l k e = refl
length_by false l k e = e

kept_by : (s : Bool) (l k : List ℕ) (j : ℕ) → nib_at k j ≡ nib_at l j → nib_at (cond s l k) j ≡ nib_at l j
kept_by true l k j e = refl
kept_by false l k j e = e

kept_set : (l : List ℕ) (i v j : ℕ) → (j ≡ i → ⊥) → nib_at (set l i v) j ≡ nib_at l j
kept_set l i v j h = ap (λ (x : ℕ). x % 16) (get_or-set_other l i j v 0 h)

got_set : (l : List ℕ) (i v : ℕ) → i < length l → v < 16 → nib_at (set l i v) i ≡ v
got_set l i v h g = let e = get_or-set_same l i v 0 h in rw e (omega arith)

module _ (l : List ℕ) (b : ℕ) where
  pub length_bmod : length (with_bmod l b) ≡ length l
  length_bmod = length_by (eqb b (bmod_of l)) l (set l (slot_of 0xF85) b) (length-set l (slot_of 0xF85) b)

  pub length_bcnt : length (with_bcnt l b) ≡ length l
  length_bcnt =
      length_by (eqb b (bcnt_of l)) l (set (set l (slot_of 0xF86) (b % 16)) (slot_of 0xF87) (b / 16))
      (length-set (set l (slot_of 0xF86) (b % 16)) (slot_of 0xF87) (b / 16) ∙ length-set l (slot_of 0xF86) (b % 16))

  pub length_irqb : length (with_irqb l b) ≡ length l
  length_irqb =
      length_by (eqb b (irqb_of l)) l (set l (slot_of 0xFB8) (nibble_at l 0xFB8 / 2 * 2 + b))
      (length-set l (slot_of 0xFB8) (nibble_at l 0xFB8 / 2 * 2 + b))

  pub kept_bmod : (j : ℕ) → (j ≡ slot_of 0xF85 → ⊥) → nib_at (with_bmod l b) j ≡ nib_at l j
  kept_bmod j h = kept_by (eqb b (bmod_of l)) l (set l (slot_of 0xF85) b) j (kept_set l (slot_of 0xF85) b j h)

  pub kept_bcnt : (j : ℕ) → (j ≡ slot_of 0xF86 → ⊥) → (j ≡ slot_of 0xF87 → ⊥) → nib_at (with_bcnt l b) j ≡ nib_at l j
  kept_bcnt j h g =
      kept_by (eqb b (bcnt_of l)) l (set (set l (slot_of 0xF86) (b % 16)) (slot_of 0xF87) (b / 16)) j
      (kept_set (set l (slot_of 0xF86) (b % 16)) (slot_of 0xF87) (b / 16) j g ∙ kept_set l (slot_of 0xF86) (b % 16) j h)

  pub kept_irqb : (j : ℕ) → (j ≡ slot_of 0xFB8 → ⊥) → nib_at (with_irqb l b) j ≡ nib_at l j
  kept_irqb j h =
      kept_by (eqb b (irqb_of l)) l (set l (slot_of 0xFB8) (nibble_at l 0xFB8 / 2 * 2 + b)) j
      (kept_set l (slot_of 0xFB8) (nibble_at l 0xFB8 / 2 * 2 + b) j h)

  module _ (n : length l ≡ nibbles) where
    bmod_by : (s : Bool) → eqb b (bmod_of l) ≡ s → b < 16 → bmod_of (cond s l (set l (slot_of 0xF85) b)) ≡ b
    bmod_by true e h = sym (eqb-true b (bmod_of l) e)
    bmod_by false e h = got_set l (slot_of 0xF85) b (omega arith) h

    pub got_bmod : b < 16 → bmod_of (with_bmod l b) ≡ b
    got_bmod = bmod_by (eqb b (bmod_of l)) refl

    pub got_written : b < 256 → bcnt_of (set (set l (slot_of 0xF86) (b % 16)) (slot_of 0xF87) (b / 16)) ≡ b
    got_written h =
        let k = set l (slot_of 0xF86) (b % 16) in
        let m = length-set l (slot_of 0xF86) (b % 16) in
        let x = kept_set k (slot_of 0xF87) (b / 16) (slot_of 0xF86) (λ q. let z : ⊥ = omega arith in z) ∙ got_set l (slot_of 0xF86) (b % 16) (omega arith) (omega arith) in
        let y = got_set k (slot_of 0xF87) (b / 16) (omega arith) (omega arith) in
        rw (x, y) (omega arith)

    bcnt_by : (s : Bool) → eqb b (bcnt_of l) ≡ s → b < 256 → bcnt_of (cond s l (set (set l (slot_of 0xF86) (b % 16)) (slot_of 0xF87) (b / 16))) ≡ b
    bcnt_by true e h = sym (eqb-true b (bcnt_of l) e)
    bcnt_by false e h = got_written h

    pub got_bcnt : b < 256 → bcnt_of (with_bcnt l b) ≡ b
    got_bcnt = bcnt_by (eqb b (bcnt_of l)) refl

    irqb_by : (s : Bool) → eqb b (irqb_of l) ≡ s → b < 2 → irqb_of (cond s l (set l (slot_of 0xFB8) (nibble_at l 0xFB8 / 2 * 2 + b))) ≡ b
    irqb_by true e h = sym (eqb-true b (irqb_of l) e)
    irqb_by false e h =
        let f = nibble_at l 0xFB8 in
        let x = got_set l (slot_of 0xFB8) (f / 2 * 2 + b) (omega arith) (omega arith) in
        rw x (omega arith)

    pub got_irqb : b < 2 → irqb_of (with_irqb l b) ≡ b
    got_irqb = irqb_by (eqb b (irqb_of l)) refl

-- the machine with its timers stored
module _ (m : Machine) (t : Timers) where
  pub with_length : length (with_timers m t).mem ≡ length m.mem
  unfolding stored_in
  with_length =
      length_irqb (with_bcnt (with_bmod m.mem t.bmod) t.bcnt) t.irqb ∙
      length_bcnt (with_bmod m.mem t.bmod) t.bcnt ∙ length_bmod m.mem t.bmod

  -- no other nibble changes
  pub with_kept : (j : ℕ) → (j ≡ slot_of 0xF85 → ⊥) → (j ≡ slot_of 0xF86 → ⊥) → (j ≡ slot_of 0xF87 → ⊥) → (j ≡ slot_of 0xFB8 → ⊥) →
      nib_at (with_timers m t).mem j ≡ nib_at m.mem j
  unfolding stored_in
  with_kept j a b c d =
      kept_irqb (with_bcnt (with_bmod m.mem t.bmod) t.bcnt) t.irqb j d ∙
      kept_bcnt (with_bmod m.mem t.bmod) t.bcnt j b c ∙ kept_bmod m.mem t.bmod j a

  module _ (n : length m.mem ≡ nibbles) (r : Ranged t) where
    after_bmod : length (with_bmod m.mem t.bmod) ≡ nibbles
    after_bmod = length_bmod m.mem t.bmod ∙ n

    after_bcnt : length (with_bcnt (with_bmod m.mem t.bmod) t.bcnt) ≡ nibbles
    after_bcnt = length_bcnt (with_bmod m.mem t.bmod) t.bcnt ∙ after_bmod

    bmod_held : bmod_of (with_timers m t).mem ≡ t.bmod
    unfolding stored_in
    bmod_held =
        kept_irqb (with_bcnt (with_bmod m.mem t.bmod) t.bcnt) t.irqb (slot_of 0xF85) (λ q. let z : ⊥ = omega arith in z) ∙
        kept_bcnt (with_bmod m.mem t.bmod) t.bcnt (slot_of 0xF85) (λ q. let z : ⊥ = omega arith in z) (λ q. let z : ⊥ = omega arith in z) ∙
        got_bmod m.mem t.bmod n r.bmod

    bcnt_held : bcnt_of (with_timers m t).mem ≡ t.bcnt
    unfolding stored_in
    bcnt_held =
        let k = with_bcnt (with_bmod m.mem t.bmod) t.bcnt in
        let x = kept_irqb k t.irqb (slot_of 0xF86) (λ q. let z : ⊥ = omega arith in z) in
        let y = kept_irqb k t.irqb (slot_of 0xF87) (λ q. let z : ⊥ = omega arith in z) in
        ap (λ (v : ℕ). v + 16 * nibble_at (with_irqb k t.irqb) 0xF87) x ∙ ap (λ (v : ℕ). nibble_at k 0xF86 + 16 * v) y ∙
        got_bcnt (with_bmod m.mem t.bmod) t.bcnt after_bmod r.bcnt

    irqb_held : irqb_of (with_timers m t).mem ≡ t.irqb
    unfolding stored_in
    irqb_held = got_irqb (with_bcnt (with_bmod m.mem t.bmod) t.bcnt) t.irqb after_bcnt r.irqb

  watched_kept : watched_in (with_timers m t).mem ≡ watched_in m.mem
  watched_kept =
      let x = with_kept (slot_of 0xF98) (λ q. let z : ⊥ = omega arith in z) (λ q. let z : ⊥ = omega arith in z) (λ q. let z : ⊥ = omega arith in z) (λ q. let z : ⊥ = omega arith in z) in
      let y = with_kept (slot_of 0xF99) (λ q. let z : ⊥ = omega arith in z) (λ q. let z : ⊥ = omega arith in z) (λ q. let z : ⊥ = omega arith in z) (λ q. let z : ⊥ = omega arith in z) in
      ap (λ (v : ℕ). not (eqb (v + 16 * nibble_at (with_timers m t).mem 0xF99) 0x5A)) x ∙ ap (λ (v : ℕ). not (eqb (nibble_at m.mem 0xF98 + 16 * v) 0x5A)) y

  -- WHAT WAS STORED IS HELD; WDMOD isn't stored
  pub held_back : length m.mem ≡ nibbles → Ranged t → t.watched ≡ (timers_of m).watched → timers_of (with_timers m t) ≡ t
  unfolding timers_in stored_in
  held_back n r w =
      let p : (t.phase + 4096 * t.count) % 4096 ≡ t.phase = let a = r.phase in omega arith in
      let d : (t.phase + 4096 * t.count) / 4096 ≡ t.count = let a = r.phase in omega arith in
      let c : (t.phase + 4096 * t.count) / 4096 % 8 ≡ t.count = rw d (mod-eq_of_lt r.count) in
      let e : watched_in (with_timers m t).mem ≡ t.watched = watched_kept ∙ sym w in
      λ i. record {
        bmod = bmod_held n r i;
        bcnt = bcnt_held n r i;
        watched = e i;
        irqb = irqb_held n r i;
        phase = p i;
        count = c i;
      }

  -- nor does a nibble behind FB8H
  pub with_behind : (j : ℕ) → slot_of 0xFB8 < j → nib_at (with_timers m t).mem j ≡ nib_at m.mem j
  with_behind j h =
      with_kept j (λ q. let z : ⊥ = omega arith in z) (λ q. let z : ⊥ = omega arith in z) (λ q. let z : ⊥ = omega arith in z) (λ q. let z : ⊥ = omega arith in z)

  same_mode : (q : Port) → slot_of 0xFB8 < slot_of q.mode → bit_and (nib_at (with_timers m t).mem (slot_of q.mode)) q.pins ≡ bit_and (nib_at m.mem (slot_of q.mode)) q.pins
  same_mode q h = ap (λ (x : ℕ). bit_and x q.pins) (with_behind (slot_of q.mode) h)

  -- no port's driven value changes: the timers have no location of a port
  pub with_outputs : (p : ℕ) → outputs_of (with_timers m t).mem p ≡ outputs_of m.mem p
  unfolding outputs_of port_at ports
  with_outputs zero = same_mode (port_at 0) (omega arith)
  with_outputs (suc zero) = refl
  with_outputs (suc (suc zero)) = refl
  with_outputs (suc (suc (suc zero))) = same_mode (port_at 3) (omega arith)
  with_outputs (suc (suc (suc (suc zero)))) = same_mode (port_at 4) (omega arith)
  with_outputs (suc (suc (suc (suc (suc zero))))) = same_mode (port_at 5) (omega arith)
  with_outputs (suc (suc (suc (suc (suc (suc zero)))))) = same_mode (port_at 6) (omega arith)
  with_outputs (suc (suc (suc (suc (suc (suc (suc p))))))) = refl

  pub with_driven : (p : ℕ) → latched_of (with_timers m t).mem p ≡ latched_of m.mem p
  unfolding latched_of
  with_driven p =
      ap (λ (x : ℕ). bit_and x (outputs_of (with_timers m t).mem p)) (with_behind (slot_of 0xFF0 + p) (omega arith)) ∙
      ap (bit_and (nib_at m.mem (slot_of 0xFF0 + p))) (with_outputs p)

-- a register that stands isn't written
bmod_same : (l : List ℕ) (b : ℕ) → b ≡ bmod_of l → with_bmod l b ≡ l
bmod_same l b e = rw (eq-eqb b (bmod_of l) e)

pub bcnt_same : (l : List ℕ) (b : ℕ) → b ≡ bcnt_of l → with_bcnt l b ≡ l
bcnt_same l b e = rw (eq-eqb b (bcnt_of l) e)

irqb_same : (l : List ℕ) (b : ℕ) → b ≡ irqb_of l → with_irqb l b ≡ l
irqb_same l b e = rw (eq-eqb b (irqb_of l) e)

-- timers of which BMOD and IRQB stand: BCNT alone is written
pub bcnt_alone : (m : Machine) (t : Timers) → t.bmod ≡ bmod_of m.mem → t.irqb ≡ irqb_of m.mem → (with_timers m t).mem ≡ with_bcnt m.mem t.bcnt
unfolding stored_in
bcnt_alone m t eb ei =
    let k = with_bcnt m.mem t.bcnt in
    let q : irqb_of k ≡ irqb_of m.mem = ap (λ (x : ℕ). x % 2) (kept_bcnt m.mem t.bcnt (slot_of 0xFB8) (λ q. let z : ⊥ = omega arith in z) (λ q. let z : ⊥ = omega arith in z)) in
    ap (λ (l : List ℕ). with_irqb (with_bcnt l t.bcnt) t.irqb) (bmod_same m.mem t.bmod eb) ∙ irqb_same k t.irqb (ei ∙ sym q)

pub with_same : (m : Machine) → (with_timers m (timers_of m)).mem ≡ m.mem
unfolding timers_in
with_same m = bcnt_alone m (timers_of m) refl refl ∙ bcnt_same m.mem (timers_of m).bcnt refl

-- BCNT written twice, rising: as written once
module _ (l : List ℕ) (n : length l ≡ nibbles) (b c : ℕ) (small : b < 256) where
  twice : set (set (set (set l (slot_of 0xF86) (b % 16)) (slot_of 0xF87) (b / 16)) (slot_of 0xF86) (c % 16)) (slot_of 0xF87) (c / 16) ≡ set (set l (slot_of 0xF86) (c % 16)) (slot_of 0xF87) (c / 16)
  twice =
      let k = set l (slot_of 0xF86) (b % 16) in
      let x = slot_of 0xF86 in
      let y = slot_of 0xF87 in
      ap (λ (h : List ℕ). set h y (c / 16)) (set_comm k y x (b / 16) (c % 16) (λ q. let z : ⊥ = omega arith in z)) ∙
      set-set (set k x (c % 16)) y (b / 16) (c / 16) ∙ ap (λ (h : List ℕ). set h y (c / 16)) (set-set l x (b % 16) (c % 16))

  -- s: whether the first is the register's value; u: whether the second is the first
  rising_by : (s u : Bool) → eqb b (bcnt_of l) ≡ s → eqb c b ≡ u → bcnt_of l ≤ b → b ≤ c → with_bcnt (with_bcnt l b) c ≡ with_bcnt l c
  rising_by true u e f lo hi = ap (λ (k : List ℕ). with_bcnt k c) (bcnt_same l b (eqb-true b (bcnt_of l) e))
  rising_by false true e f lo hi =
      let q = eqb-true c b f in
      bcnt_same (with_bcnt l b) c (q ∙ sym (got_bcnt l b n small)) ∙ ap (with_bcnt l) (sym q)
  rising_by false false e f lo hi =
      let x = eqb-false b (bcnt_of l) e in
      let y = eqb-false c b f in
      let k = set (set l (slot_of 0xF86) (b % 16)) (slot_of 0xF87) (b / 16) in
      let w : with_bcnt l b ≡ k = rw e in
      let g : bcnt_of k ≡ b = got_written l b n small in
      let v : with_bcnt k c ≡ set (set k (slot_of 0xF86) (c % 16)) (slot_of 0xF87) (c / 16) = rw (ne_eqb c (bcnt_of k) (λ q. y (q ∙ g))) in
      let a : (c ≡ bcnt_of l → ⊥) = λ q. let z : ⊥ = (x (let o : b ≡ bcnt_of l = omega arith in o)) in z in
      let d : with_bcnt l c ≡ set (set l (slot_of 0xF86) (c % 16)) (slot_of 0xF87) (c / 16) = rw (ne_eqb c (bcnt_of l) a) in
      ap (λ (h : List ℕ). with_bcnt h c) w ∙ v ∙ twice ∙ sym d

  rising : bcnt_of l ≤ b → b ≤ c → with_bcnt (with_bcnt l b) c ≡ with_bcnt l c
  rising = rising_by (eqb b (bcnt_of l)) (eqb c b) refl refl

-- timers of which BMOD and IRQB stand, stored over such timers, with BCNT risen
module _ (m : Machine) (s u : Timers) (n : length m.mem ≡ nibbles) (r : Ranged s) (sb : s.bmod ≡ bmod_of m.mem) (si : s.irqb ≡ irqb_of m.mem) (ub : u.bmod ≡ s.bmod) (ui : u.irqb ≡ s.irqb) where
  over_mem : bcnt_of m.mem ≤ s.bcnt → s.bcnt ≤ u.bcnt → (with_timers (with_timers m s) u).mem ≡ (with_timers m u).mem
  over_mem lo hi =
      bcnt_alone (with_timers m s) u (ub ∙ sym (bmod_held m s n r)) (ui ∙ sym (irqb_held m s n r)) ∙
      ap (λ (l : List ℕ). with_bcnt l u.bcnt) (bcnt_alone m s sb si) ∙
      rising m.mem n s.bcnt u.bcnt r.bcnt lo hi ∙ sym (bcnt_alone m u (ub ∙ sb) (ui ∙ si))

  over : bcnt_of m.mem ≤ s.bcnt → s.bcnt ≤ u.bcnt → with_timers (with_timers m s) u ≡ with_timers m u
  over lo hi = ap (λ (l : List ℕ). at l (with_basic m.cpu (basic_of u))) (over_mem lo hi)

-- TWO QUIET STRETCHES ARE ONE: BCNT only rises, so that a register that was written stays different
pub quiet_with : (a b : ℕ) (m : Machine) → length m.mem ≡ nibbles → quiet_of (a + b) (timers_of m) ≡ true →
    with_timers (with_timers m (quiet_state_of a (timers_of m))) (quiet_state_of b (quiet_state_of a (timers_of m))) ≡ with_timers m (quiet_state_of (a + b) (timers_of m))
unfolding quiet_state_of timers_in
quiet_with a b m n h =
    let t = timers_of m in
    let r = timers_ranged m in
    let s = quiet_state_of a t in
    over m s (quiet_state_of b s) n (quiet_ranged a t r (quiet_first a b t r h)) refl refl refl refl (quiet_rises a t) (quiet_rises b s) ∙
    ap (with_timers m) (quiet_join a b t r h)
