-- What passes after the rules: the laws that callers use of it.
-- Assumes nothing.
use Prim.Native.Nat.{ℕ, zero, suc, ◌+◌, ◌*◌, ◌%◌, ◌/◌, ◌<◌, ◌≤◌}
use native.Mathlib.Omega.{arith}
use native.Mathlib.Nat.{mul-le-mul_left}
use mathlib.Core.Path.{◌≡◌, ◌∙◌, refl, sym, ap, subst}
use mathlib.Core.Bool.{Bool, true, false, cond, ◌&&◌}
use lib.Dec.{eqb}
use lib.ListN.{get_or}
use mathlib.Core.List.{List}
use Rattle.chip.specs.declared.Cpu.{Cpu}
use Rattle.chip.specs.declared.Machine.{Machine}
use Rattle.chip.specs.Scalars.{with_basic}
use Rattle.chip.specs.Modes.{stopped}
use Rattle.chip.specs.State.{at, nibble_at, slot_of}
use Rattle.fetch.specs.declared.Code.{Code}
use Rattle.effects.specs.declared.Effect.{Effect}
use Rattle.effects.specs.Effects.{writes_in, writes_of}
use Rattle.timers.specs.declared.Timers.{Timers}
use Rattle.timers.specs.declared.Passed.{Passed}
use Rattle.timers.specs.declared.Passed.TheVariants.{On, Reset}
use Rattle.timers.specs.Rates.{table_6_1, rate_in, rate_of}
use Rattle.timers.specs.Clock.{clocks_of, Ranged}
use Rattle.timers.specs.Clears.{cleared_of}
use Rattle.timers.specs.Closed.{state_of, quiet_state_of}
use Rattle.timers.specs.Registers.{timers_in, timers_of, with_timers}
use Rattle.timers.proofs.Few.{few_clocks}
use Rattle.timers.proofs.Held.{timers_ranged, cleared_ranged}
use Rattle.timers.proofs.Stillness.{still_law, asked}
use Rattle.elapse.proofs.Made.{struck_low}
use Rattle.elapse.specs.declared.Clocked.{Clocked}
use Rattle.elapse.specs.Bounds.{last_count, most_cycles, most_clocks, resets, ClockedAs, Stays}
use Rattle.elapse.specs.Elapsed.{strikes, restarts, clears, timed_of, reset_to, clocked_to, passed_by, elapsed_of}

-- the cursor and the clock stay
clocked_cursor : (v : Code) (n : ℕ) (m : Machine) (p : Passed) → (clocked_to v n m p).cpu.cursor ≡ m.cpu.cursor
clocked_cursor v n m (On t) = refl
clocked_cursor v n m (Reset t) = refl

clocked_clock : (v : Code) (n : ℕ) (m : Machine) (p : Passed) → (clocked_to v n m p).cpu.clock ≡ m.cpu.clock
clocked_clock v n m (On t) = refl
clocked_clock v n m (Reset t) = refl

pub elapsed_cursor : (v : Code) (n : ℕ) (r : Machine) (e : Effect) (t : ℕ) (m : Machine) → (elapsed_of v n r e t m).cpu.cursor ≡ m.cpu.cursor
unfolding elapsed_of passed_by
elapsed_cursor v n r e t m = clocked_cursor v n m (clocks_of (t * rate_of r) (timed_of r.cpu.mode e m))

pub passed_clock : (v : Code) (n was : ℕ) (e : Effect) (k : ℕ) (m : Machine) → (passed_by v n was e k m).cpu.clock ≡ m.cpu.clock
unfolding passed_by
passed_clock v n was e k m = clocked_clock v n m (clocks_of k (timed_of was e m))

-- the timers before the clocks are in their ranges
pub timed_ranged : (was : ℕ) (e : Effect) (m : Machine) → Ranged (timed_of was e m)
unfolding timed_of
timed_ranged was e m = cleared_ranged (restarts e m) (clears was e m) (timers_of m) (timers_ranged m)

-- a clear takes no count up
cleared_count : (restart clear : Bool) (t : Timers) → (cleared_of restart clear t).count ≤ t.count
unfolding cleared_of
cleared_count true true t = omega arith
cleared_count true false t = omega arith
cleared_count false true t = omega arith
cleared_count false false t = omega arith

early_count : (m : Machine) → m.cpu.timing.basic < last_count → (timers_of m).count < 7
unfolding timers_in
early_count m h = omega arith

timed_early : (was : ℕ) (e : Effect) (m : Machine) → m.cpu.timing.basic < last_count → (timed_of was e m).count < 7
unfolding timed_of
timed_early was e m h = omega (arith, early_count m h, cleared_count (restarts e m) (clears was e m) (timers_of m))

-- where the watchdog's count isn't at its last, a step's clocks don't reset the chip
pub on_by : (was : ℕ) (e : Effect) (k : ℕ) (m : Machine) → m.cpu.timing.basic < last_count → k < most_clocks → clocks_of k (timed_of was e m) ≡ On (state_of k (timed_of was e m))
on_by was e k m h f = few_clocks k (timed_of was e m) (timed_ranged was e m) (timed_early was e m h) f

pub quiet_passes : (v : Code) (n was : ℕ) (e : Effect) (k : ℕ) (m : Machine) → m.cpu.timing.basic < last_count → k < most_clocks → passed_by v n was e k m ≡ with_timers m (state_of k (timed_of was e m))
unfolding passed_by
quiet_passes v n was e k m h f = ap (clocked_to v n m) (on_by was e k m h f)

-- the machine from what the code carries on: not reset, and reset
module _ (v : Code) (n : ℕ) (m : Machine) where
  come_on : (p : Passed) (r : Clocked) (k : List ℕ) → ClockedAs p m.mem r k → resets p ≡ false → at k (with_basic m.cpu r.basic) ≡ clocked_to v n m p
  come_on (On t) r k h q = λ i. at (h.mem i) (with_basic m.cpu (h.timing i))
  come_on (Reset t) r k h q = absurd (let z : ◌≡◌ {A = ℕ} 0 1 = cc in omega arith)

  come_reset : (p : Passed) (r : Clocked) (k : List ℕ) → ClockedAs p m.mem r k → resets p ≡ true → reset_to v n (at k (with_basic m.cpu r.basic)) ≡ clocked_to v n m p
  come_reset (On t) r k h q = absurd (let z : ◌≡◌ {A = ℕ} 0 1 = cc in omega arith)
  come_reset (Reset t) r k h q = ap (reset_to v n) (λ i. at (h.mem i) (with_basic m.cpu (h.timing i)))

  module _ (was : ℕ) (e : Effect) (c : ℕ) (r : Clocked) (k : List ℕ) (h : ClockedAs (clocks_of c (timed_of was e m)) m.mem r k) where
    pub passed_on : r.bitten ≡ false → at k (with_basic m.cpu r.basic) ≡ passed_by v n was e c m
    unfolding passed_by
    passed_on q = come_on (clocks_of c (timed_of was e m)) r k h (sym h.bitten ∙ q)

    pub passed_reset : r.bitten ≡ true → reset_to v n (at k (with_basic m.cpu r.basic)) ≡ passed_by v n was e c m
    unfolding passed_by
    passed_reset q = come_reset (clocks_of c (timed_of was e m)) r k h (sym h.bitten ∙ q)

    pub passed_early : m.cpu.timing.basic < last_count → c < most_clocks → at k (with_basic m.cpu r.basic) ≡ passed_by v n was e c m
    passed_early b f = passed_on (h.bitten ∙ ap resets (on_by was e c m b f))

-- where the phase alone moves: BMOD.3 stands at 0, so that the timer isn't restarted
unstruck : (a : Bool) (x : ℕ) → x < 8 → a && eqb (x / 8) 1 ≡ false
unstruck a x h = sym (struck_low a x h)

pub came_still : (was : ℕ) (e : Effect) (c : ℕ) (l : List ℕ) (d : Cpu) (w : ℕ) → d.timing.basic ≡ w → w < last_count → Stays was e (at l d) c →
    ClockedAs (clocks_of c (timed_of was e (at l d))) l (record { basic = w + c; bitten = false }) l
unfolding timed_of strikes
came_still was e c l d w t h s =
    let m = at l d in
    let clear = clears was e m in
    let low = (asked m c s.still).stands in
    let z = still_law m c clear (omega arith) s.counted s.still in
    let restart : restarts e m ≡ false = unstruck (writes_in (slot_of 0xF85) (writes_of e)) (nibble_at l 0xF85) low in
    let is : On (quiet_state_of c (timers_of m)) ≡ clocks_of c (cleared_of (restarts e m) clear (timers_of m)) =
    sym z.0 ∙ ap (λ (x : Bool). clocks_of c (cleared_of x clear (timers_of m))) (sym restart) in
    subst (λ (p : Passed). ClockedAs p l (record { basic = w + c; bitten = false }) l) is
    (record {
      mem = sym (ap (λ (x : Machine). x.mem) z.1);
      timing = ap (λ (x : ℕ). x + c) (sym t) ∙ sym (ap (λ (x : Machine). x.cpu.timing.basic) z.1);
      bitten = refl;
    })

-- so the machine has the same nibbles
pub passed_still : (v : Code) (n was : ℕ) (e : Effect) (c : ℕ) (m : Machine) → m.cpu.timing.basic < last_count → Stays was e m c →
    at m.mem (with_basic m.cpu (m.cpu.timing.basic + c)) ≡ passed_by v n was e c m
passed_still v n was e c m h s =
    passed_on v n m was e c (record { basic = m.cpu.timing.basic + c; bitten = false }) m.mem (came_still was e c m.mem m.cpu m.cpu.timing.basic refl h s) refl

-- the clocks of a step's cycles, by the mode that the rules found
pub elapsed_as : (v : Code) (n : ℕ) (r : Machine) (e : Effect) (t : ℕ) (m : Machine) {was k : ℕ} → r.cpu.mode ≡ was → k ≡ t * rate_in r.mem was → passed_by v n was e k m ≡ elapsed_of v n r e t m
unfolding elapsed_of
elapsed_as v n r e t m {was} {k} h q =
    ap (λ (x : ℕ). passed_by v n was e x m) q ∙ ap (λ (x : ℕ). passed_by v n x e (t * rate_in r.mem x) m) (sym h)

rate_by : (x : ℕ) (b : Bool) → x < 4 → cond b 0 (get_or table_6_1 x 64) ≤ 64
unfolding table_6_1
rate_by x true h = omega arith
rate_by zero false h = omega arith
rate_by (suc zero) false h = omega arith
rate_by (suc (suc zero)) false h = omega arith
rate_by (suc (suc (suc zero))) false h = omega arith
rate_by (suc (suc (suc (suc x)))) false h = absurd (let z : ⊥ = omega arith in z)

rate_most : (l : List ℕ) (mode : ℕ) → rate_in l mode ≤ 64
unfolding rate_in
rate_most l mode = rate_by (nibble_at l 0xFB3 % 4) (eqb mode stopped) (omega arith)

-- few cycles are few clocks
pub few_cycles : (l : List ℕ) (mode t : ℕ) {k : ℕ} → t < most_cycles → k ≡ t * rate_in l mode → k < most_clocks
few_cycles l mode t {k} h q = let z : t * rate_in l mode ≤ t * 64 = mul-le-mul_left t (rate_most l mode) in omega arith
