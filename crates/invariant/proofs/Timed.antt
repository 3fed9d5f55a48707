-- Document 02, No. 1: what passes after the rules, or after a cycle of the hold, keeps a machine sound: the timers stored where they have
-- changed, and the watchdog's reset.
-- Assumes nothing.
use Prim.Native.Nat.{ℕ, ◌+◌, ◌*◌, ◌%◌, ◌/◌, ◌≤◌, ◌<◌}
use native.Mathlib.Omega.{arith}
use mathlib.Core.Path.{◌≡◌}
use mathlib.Core.List.{List}
use mathlib.Core.Logic.{◌⊎◌}
use lib.Dec.{eqb}
use lib.ListN.{set}
use Rattle.chip.specs.declared.Cpu.{Cpu}
use Rattle.chip.specs.declared.Machine.{Machine}
use Rattle.chip.specs.Scalars.{with_basic}
use Rattle.chip.specs.State.{rom0502, rom0504, nibble_at, slot_of}
use Rattle.chip.proofs.Laws.{either}
use Rattle.fetch.specs.declared.Code.{Code}
use Rattle.effects.specs.declared.Effect.{Effect}
use Rattle.timers.specs.declared.Timers.{Timers}
use Rattle.timers.specs.declared.Passed.{Passed}
use Rattle.timers.specs.declared.Passed.TheVariants.{On, Reset}
use Rattle.timers.specs.Rates.{rate_of}
use Rattle.timers.specs.Clock.{clocks_of, Ranged}
use Rattle.timers.specs.Registers.{bmod_of, bcnt_of, irqb_of, with_bmod, with_bcnt, with_irqb, basic_of, stored_in, with_timers}
use Rattle.timers.proofs.Laws.{InRange, clocks_ranged}
use Rattle.elapse.specs.Elapsed.{timed_of, clocked_to, passed_by, elapsed_of}
use Rattle.elapse.proofs.Elapsing.{timed_ranged}
use Rattle.invariant.specs.Sound.{SoundMem, SoundCpu, Sound}
use Rattle.invariant.proofs.Arrived.{fits_nibble, set_sound, reset_to_lem}

-- a nibble stored anywhere but at F80H
nibble_sound : (l : List ℕ) (i v : ℕ) → SoundMem l → v ≤ 15 → (i ≡ slot_of 0xF80 → ⊥) → SoundMem (set l i v)
nibble_sound l i v h p q = set_sound l i v h (fits_nibble i v p q)

-- the nibbles with another value of a register, which may stand as it was
module _ (l : List ℕ) (b : ℕ) (h : SoundMem l) where
  bmod_sound : b < 16 → SoundMem (with_bmod l b)
  bmod_sound p = either SoundMem (eqb b (bmod_of l)) h (nibble_sound l (slot_of 0xF85) b h (omega arith) (omega arith))

  bcnt_sound : b < 256 → SoundMem (with_bcnt l b)
  bcnt_sound p =
      either SoundMem (eqb b (bcnt_of l)) h
      (nibble_sound (set l (slot_of 0xF86) (b % 16)) (slot_of 0xF87) (b / 16)
      (nibble_sound l (slot_of 0xF86) (b % 16) h (omega arith) (omega arith)) (omega arith) (omega arith))

  irqb_sound : b < 2 → SoundMem (with_irqb l b)
  irqb_sound p =
      either SoundMem (eqb b (irqb_of l)) h
      (nibble_sound l (slot_of 0xFB8) (nibble_at l 0xFB8 / 2 * 2 + b) h (omega arith) (omega arith))

-- the nibbles with their timers stored
stored_sound : (l : List ℕ) (t : Timers) → SoundMem l → Ranged t → SoundMem (stored_in l t)
unfolding stored_in
stored_sound l t h r =
    let x = with_bmod l t.bmod in
    let y = with_bcnt x t.bcnt in
    irqb_sound y t.irqb (bcnt_sound x t.bcnt (bmod_sound l t.bmod h r.bmod) r.bcnt) r.irqb

-- the scalars: a phase and a watchdog's count take 15 bits, and what remains of the hold stands
timing_sound : (n : ℕ) (c : Cpu) (t : Timers) → SoundCpu n c → Ranged t → SoundCpu n (with_basic c (basic_of t))
timing_sound n c t h r =
    let p = r.phase in
    let q = r.count in
    record {
      pc = h.pc;
      smb = h.smb;
      srb = h.srb;
      mode = h.mode;
      effect = h.effect;
      release = h.release;
      pins = h.pins;
      clock = h.clock;
      cursor = h.cursor;
      timing = omega arith;
      hold = h.hold;
    }

pub timers_sound : (n : ℕ) (m : Machine) (t : Timers) → Sound n m → Ranged t → Sound n (with_timers m t)
timers_sound n m t h r = record { mem = stored_sound m.mem t h.mem r; cpu = timing_sound n m.cpu t h.cpu r }

-- v is the code at 0000H and n the ROM's length
module _ (v : Code) (n : ℕ) (rom : (n ≡ rom0502) ⊎ (n ≡ rom0504)) (byte : v.b0 < 256) (m : Machine) (h : Sound n m) where
  clocked_sound : (p : Passed) → InRange p → Sound n (clocked_to v n m p)
  clocked_sound (On t) r = timers_sound n m t h r
  clocked_sound (Reset t) r = reset_to_lem v n rom byte (with_timers m t) (timers_sound n m t h r)

  -- any number of oscillator clocks, of any step's effect
  pub passed_sound : (was : ℕ) (e : Effect) (k : ℕ) → Sound n (passed_by v n was e k m)
  unfolding passed_by
  passed_sound was e k = clocked_sound (clocks_of k (timed_of was e m)) (clocks_ranged k (timed_of was e m) (timed_ranged was e m))

  pub elapsed_sound : (r : Machine) (e : Effect) (t : ℕ) → Sound n (elapsed_of v n r e t m)
  unfolding elapsed_of
  elapsed_sound r e t = passed_sound r.cpu.mode e (t * rate_of r)
