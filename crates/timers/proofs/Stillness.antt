-- The common step: clocks with which BCNT doesn't count move the divider's phase alone.
-- Assumes nothing.
use Prim.Native.Nat.{ℕ, ◌+◌, ◌*◌, ◌%◌, ◌/◌, ◌^◌, ◌<◌}
use native.Mathlib.Omega.{arith}
use native.Mathlib.Nat.{mod-eq_of_lt}
use mathlib.Core.Path.{◌≡◌, ◌∙◌, refl, sym, ap}
use mathlib.Core.Bool.{Bool, true, false, ◌&&◌}
use lib.Dec.{eqb, ltb}
use borrow.Author.Tests.{eqb-true, ltb-true}
use Rattle.chip.specs.declared.Machine.{Machine}
use Rattle.chip.specs.Scalars.{with_basic}
use Rattle.chip.specs.State.{at}
use Rattle.timers.specs.declared.Timers.{Timers}
use Rattle.timers.specs.declared.Passed.TheVariants.{On}
use Rattle.timers.specs.Taps.{tap_of}
use Rattle.timers.specs.Clock.{phases, clocks_of}
use Rattle.timers.specs.Clears.{cleared_of}
use Rattle.timers.specs.Registers.{bmod_of, timers_in, timers_of, basic_of, with_timers}
use Rattle.timers.specs.Closed.{total_of, quiet_state_of, still_of}
use Rattle.timers.proofs.Ticks.{Whole, turns, in_turn}
use Rattle.timers.proofs.Rows.{tap_whole}
use Rattle.timers.proofs.Quiet.{calm_clocks}
use Rattle.timers.proofs.Held.{timers_ranged, bcnt_alone, bcnt_same}

both : (a b : Bool) → a && b ≡ true → (a ≡ true) × (b ≡ true)
both true b h = (refl, h)
both false true h = (h, refl)
both false false h = (h, h)

-- what is asked
pub record Still (m : Machine) (n : ℕ) : Type 0 where
  pub stands : bmod_of m.mem < 8
  pub ticks : (m.cpu.timing.basic + n) / 2 ^ tap_of (bmod_of m.mem) ≡ m.cpu.timing.basic / 2 ^ tap_of (bmod_of m.mem)

pub asked : (m : Machine) (n : ℕ) → still_of m.mem m.cpu.timing.basic n ≡ true → Still m n
unfolding still_of
asked m n h =
    let w = m.cpu.timing.basic in
    let k = tap_of (bmod_of m.mem) in
    let x = both (ltb (bmod_of m.mem) 8) (eqb ((w + n) / 2 ^ k) (w / 2 ^ k)) h in
    record {
      stands = ltb-true (bmod_of m.mem) 8 x.0;
      ticks = eqb-true ((w + n) / 2 ^ k) (w / 2 ^ k) x.1;
    }

-- bytes w of which the tap doesn't wrap in n clocks: neither does the phase's, and so the phase stays in its turn of the divider
module _ (k w n : ℕ) (whole : Whole k) (e : (w + n) / 2 ^ k ≡ w / 2 ^ k) where
  pub phase_stays : (w % phases + n) / 2 ^ k ≡ w % phases / 2 ^ k
  phase_stays =
      let p = w % 4096 in
      let c = w / 4096 in
      let a = turns k whole (p + n) c in
      let b = turns k whole p c in
      let d : (w + n) / 2 ^ k ≡ (p + n + 4096 * c) / 2 ^ k = ap (λ (y : ℕ). y / 2 ^ k) (let z : w + n ≡ p + n + 4096 * c = omega arith in z) in
      let f : w / 2 ^ k ≡ (p + 4096 * c) / 2 ^ k = ap (λ (y : ℕ). y / 2 ^ k) (let z : w ≡ p + 4096 * c = omega arith in z) in
      omega arith

  pub phase_within : w % phases + n < phases
  phase_within = in_turn k whole (w % 4096) n (omega arith) phase_stays

-- a count that is 0 is cleared already
uncounts : (clear : Bool) (t : Timers) → (clear ≡ true → t.count ≡ 0) → cleared_of false clear t ≡ t
unfolding cleared_of
uncounts true t e = λ i. record { bmod = t.bmod; bcnt = t.bcnt; watched = t.watched; irqb = t.irqb; phase = t.phase; count = sym (e refl) i }
uncounts false t e = refl

module _ (m : Machine) (n : ℕ) (s : Still m n) where
  within : m.cpu.timing.basic % phases + n < phases
  within = phase_within (tap_of (bmod_of m.mem)) m.cpu.timing.basic n (tap_whole (bmod_of m.mem)) s.ticks

  total_is : total_of n (timers_of m) ≡ (timers_of m).bcnt
  unfolding total_of timers_in
  total_is =
      let k = tap_of (bmod_of m.mem) in
      let e = phase_stays k m.cpu.timing.basic n (tap_whole (bmod_of m.mem)) s.ticks in
      omega arith

  clocks_are : clocks_of n (timers_of m) ≡ On (quiet_state_of n (timers_of m))
  clocks_are =
      let r = timers_ranged m in
      let z = r.bcnt in
      calm_clocks n (timers_of m) r (rw total_is z)

  mem_is : (with_timers m (quiet_state_of n (timers_of m))).mem ≡ m.mem
  unfolding quiet_state_of timers_in
  mem_is = bcnt_alone m (quiet_state_of n (timers_of m)) refl refl ∙ bcnt_same m.mem (total_of n (timers_of m)) total_is

  module _ (small : m.cpu.timing.basic < 32768) where
    basic_is : basic_of (quiet_state_of n (timers_of m)) ≡ m.cpu.timing.basic + n
    unfolding quiet_state_of timers_in
    basic_is =
        let a = within in
        let b : (m.cpu.timing.basic % 4096 + n) % 4096 ≡ m.cpu.timing.basic % 4096 + n = mod-eq_of_lt a in
        let c : m.cpu.timing.basic / 4096 % 8 ≡ m.cpu.timing.basic / 4096 = omega arith in
        rw (b, c) (omega arith)

    machine_is : with_timers m (quiet_state_of n (timers_of m)) ≡ at m.mem (with_basic m.cpu (m.cpu.timing.basic + n))
    machine_is = λ i. at (mem_is i) (with_basic m.cpu (basic_is i))

    fits : m.cpu.timing.basic + n < 32768
    fits = let a = within in omega arith

-- CLOCKS THAT MOVE THE PHASE ALONE, whether the watchdog's count is cleared before them, where it is 0, or not: the bytes grow by them, and stay 15 bits
module _ (m : Machine) (n : ℕ) (clear : Bool) (small : m.cpu.timing.basic < 32768) (uncounted : clear ≡ true → m.cpu.timing.basic < phases) (h : still_of m.mem m.cpu.timing.basic n ≡ true) where
  count_is : clear ≡ true → (timers_of m).count ≡ 0
  unfolding timers_in
  count_is e = let z = uncounted e in omega arith

  pub still_law : (clocks_of n (cleared_of false clear (timers_of m)) ≡ On (quiet_state_of n (timers_of m)))
      × (with_timers m (quiet_state_of n (timers_of m)) ≡ at m.mem (with_basic m.cpu (m.cpu.timing.basic + n)))
  still_law = (ap (clocks_of n) (uncounts clear (timers_of m) count_is) ∙ clocks_are m n (asked m n h), machine_is m n (asked m n h) small)

  pub still_fits : m.cpu.timing.basic + n < 32768
  still_fits = fits m n (asked m n h) small
