-- A session from fresh: the fresh state is one that the claim is about, so that from it too traces with one meaning replay alike.
-- Assumes nothing.
use Prim.Native.Nat.{ℕ, ◌≤◌, ◌<◌, ◌^◌}
use native.Mathlib.Omega.{arith}
use native.Mathlib.Decide.{dec_le}
use mathlib.Core.Path.{◌≡◌, refl, ap, subst, subst⁻¹}
use mathlib.Core.Bool.{Bool, true, false, cond}
use mathlib.Core.List.{List}
use mathlib.Core.Logic.{◌⊎◌, inl, inr}
use lib.Dec.{eqb, ltb}
use lib.ListN.{length, get_or, replicate, length-replicate, get_or-replicate, get_or-eq_default}
use Rattle.numbers.specs.Numbers.{done, rom_refusal, image_refusal}
use Rattle.pins.specs.Pins.{pin_count, nibble}
use Rattle.chip.specs.declared.Machine.{Machine}
use Rattle.chip.specs.Reset.{zero_cpu, fresh_of}
use Rattle.chip.specs.State.{nibbles, rom0502, rom0504, slot_of}
use Rattle.chip.proofs.Laws.{either}
use Rattle.image.specs.Image.{image_size, cpu_of, image_of, nibble_fits}
use Rattle.record.proofs.Pins.{seven}
use Rattle.verdicts.specs.Verdicts.{rom_fits}
use Rattle.verdicts.proofs.Accepted.{rom_size}
use Rattle.startup.specs.Startup.{fresh_number, fresh_state}
use Rattle.tidy.specs.Meaning.{meaning_of, Accepted}
use Rattle.invariant.specs.Sound.{Bytes, SoundMem, SoundCpu, Sound}
use Rattle.invariant.proofs.Arrived.{reset_sound, reset_cpu_lem}
use Rattle.invariant.proofs.Images.{image_back}
use Rattle.trainer.specs.Trainer.{Held}
use Rattle.trainer.proofs.Held.{image_bytes}
use Rattle.alike.specs.Alike.{Alike}
use Rattle.alike.proofs.Waits.{fits_small}
use Rattle.alike.proofs.Alike.{alike}

-- the image of a sound machine is a list of bytes
module _ (n : ℕ) (rom : (n ≡ rom0502) ⊎ (n ≡ rom0504)) (m : Machine) (h : Sound n m) where
  mem_bytes : Bytes m.mem
  mem_bytes i =
      elim (dec_le nibbles i) [
        | yes y ↦ subst⁻¹ (λ (x : ℕ). x < 256) (get_or-eq_default m.mem 0 {n = i} (omega (arith, h.mem.long))) (omega arith)
        | no y ↦ omega (arith, fits_small i (get_or m.mem i 0) (ltb 15 (get_or m.mem i 0)) refl (h.mem.fit i (omega arith)))
      ]

  short : n ≤ 65536
  short = elim rom [ inl e ↦ omega arith | inr e ↦ omega arith ]

  held : Held m
  held =
      let c = h.cpu in
      record {
        long = h.mem.long;
        mem = mem_bytes;
        pc = omega (arith, short, c.pc);
        smb = omega (arith, c.smb);
        srb = omega (arith, c.srb);
        mode = omega (arith, c.mode);
        effect = omega (arith, c.effect);
        release = omega (arith, c.release);
        pins = omega (arith, c.pins.most);
        clock = omega (arith, c.clock);
        cursor = omega (arith, c.cursor);
        timing = omega (arith, c.timing);
        hold = omega (arith, c.hold);
      }

-- the fresh machine of a ROM of n bytes is sound
zero_mem : SoundMem (replicate nibbles 0)
zero_mem =
    record {
      long = length-replicate {A = ℕ} nibbles 0;
      fit =
          λ i h. subst⁻¹ (λ (x : ℕ). nibble_fits i x ≡ true) (get_or-replicate nibbles i 0 0 h)
          (either (λ (b : Bool). b ≡ true) (eqb i (slot_of 0xF80)) {x = true} {y = true} refl refl);
    }

zero_cpu_lem : (n : ℕ) → 0 < n → SoundCpu n zero_cpu
zero_cpu_lem n h =
    record {
      pc = h;
      smb = omega arith;
      srb = omega arith;
      mode = omega arith;
      effect = omega arith;
      release = omega arith;
      pins =
          record {
            most = omega arith;
            present =
                seven (λ (k : ℕ). nibble 0 k < 2 ^ pin_count k) (omega arith) (omega arith) (omega arith) (omega arith) (omega arith) (omega arith)
                (omega arith);
          };
      clock = omega arith;
      cursor = omega arith;
      timing = omega arith;
      hold = omega arith;
    }

module _ (n b0 b1 : ℕ) (rom : (n ≡ rom0502) ⊎ (n ≡ rom0504)) (byte : b0 < 256) where
  some : 0 < n
  some = elim rom [ inl e ↦ omega arith | inr e ↦ omega arith ]

  fresh_sound : Sound n (fresh_of n b0 b1)
  unfolding fresh_of
  fresh_sound = record { mem = reset_sound (replicate nibbles 0) b0 byte zero_mem; cpu = reset_cpu_lem n b0 b1 zero_cpu rom (zero_cpu_lem n some) }

  fresh_bytes : Bytes (image_of (fresh_of n b0 b1))
  fresh_bytes = image_bytes (fresh_of n b0 b1) (held n rom (fresh_of n b0 b1) fresh_sound)

  fresh_start : (cpu_of (image_of (fresh_of n b0 b1))).cursor ≡ 0
  unfolding fresh_of
  fresh_start = ap (λ (m : Machine). m.cpu.cursor) (image_back n (fresh_of n b0 b1) rom fresh_sound)

-- what fresh leaves where it answers done
made_by : (a b : Bool) (made s : List ℕ) → ◌≡◌ {A = ℕ} (cond a (cond b done image_refusal) rom_refusal) done → (a ≡ true) × (made ≡ cond a (cond b made s) s)
made_by true true made s h = (refl, refl)
made_by true false made s h = absurd (omega arith)
made_by false b made s h = absurd (omega arith)

pub fresh_alike : (rom old x y : List ℕ) → Bytes rom → fresh_number rom old ≡ done → Accepted x → Accepted y → meaning_of x ≡ meaning_of y →
    Alike rom (fresh_state rom old) x y
unfolding fresh_number fresh_state
fresh_alike rom old x y bytes h first second meaning =
    let n = length rom in
    let made = image_of (fresh_of n (get_or rom 0 0) (get_or rom 1 0)) in
    let f = made_by (rom_fits n) (eqb (length old) image_size) made old h in
    let size = rom_size n f.0 in
    subst (λ (s : List ℕ). Alike rom s x y) f.1
    (alike rom made x y
    (record {
      rom_bytes = bytes;
      state_bytes = fresh_bytes n (get_or rom 0 0) (get_or rom 1 0) size (bytes 0);
      start = fresh_start n (get_or rom 0 0) (get_or rom 1 0) size (bytes 0);
      first = first;
      second = second;
      meaning = meaning;
    }))
