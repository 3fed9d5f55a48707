-- The rules keep a machine sound: they stop with 9 or 10, or what they do is fine and the scalars that they leave are sound. So does a cycle of the
-- hold in their place.
-- Assumes nothing.
use Prim.Native.Nat.{ℕ, zero, suc, ◌+◌, ◌-◌, ◌*◌, ◌%◌, ◌/◌, ◌<◌, ◌≤◌}
use native.Mathlib.Omega.{arith}
use mathlib.Core.Path.{◌≡◌}
use mathlib.Core.Bool.{cond}
use mathlib.Core.List.{List}
use mathlib.Core.Logic.{◌⊎◌, inl, inr}
use lib.Dec.{eqb}
use Rattle.chip.specs.declared.Cpu.{Cpu}
use Rattle.chip.specs.declared.Machine.{Machine}
use Rattle.rights.specs.declared.Width.TheVariants.{Four}
use Rattle.chip.specs.Modes.{running}
use Rattle.numbers.specs.Numbers.{code_stop, reference_stop}
use Rattle.chip.specs.Scalars.{with_hold}
use Rattle.chip.specs.State.{nib_at, slot_of, wrap_of}
use Rattle.chip.specs.Memory.{with_bit}
use Rattle.chip.specs.Reset.{vector_flags, vector_pc}
use Rattle.chip.specs.Interrupts.{sources, source_at, ime_of, is_of}
use Rattle.chip.proofs.Laws.{either}
use Rattle.codes.specs.Decode.{decode}
use Rattle.fetch.specs.declared.Code.{Code}
use Rattle.pending.specs.Pending.{no_source, wakes_vectored, wakes_of, acknowledged_of}
use Rattle.effects.specs.declared.Effect.{Effect}
use Rattle.effects.specs.Operands.{reg_in, read4_in, hl_in, pointed_in}
use Rattle.forms.specs.Operations.{effect_of}
use Rattle.outcomes.specs.declared.Outcome.{Outcome}
use Rattle.outcomes.specs.declared.Outcome.TheVariants.{Stops, Does}
use Rattle.outcomes.specs.Outcomes.{idle_cpu, idle_of, held_of, psw_of, status_write, entry_of, after_cpu, Skipped, bytes, undefined, skipped_of, done_of, skip_of}
use Rattle.rules.specs.Rules.{Choice, itself, referred, pair, nothing, choice_of, first_write, pair_effect, under, carried_out, after_code, cycles_of, execution_of, enters_now, rules_of, action_of}
use Rattle.invariant.specs.Sound.{SoundCpu, Sound}
use Rattle.invariant.proofs.Arrived.{wrap_small}
use Rattle.invariant.proofs.Writes.{Harmless, ended, ◌&◌, elsewhere, register_write_lem, memory_write}
use Rattle.invariant.proofs.Effects.{Banks, Fine, pushes, jumps, then_step_reg_lem, then_increment_pair_lem, instruction}

-- what is known of the machine before the rules: a ROM of n bytes, and sound fields
pub record Given (n : ℕ) (m : Machine) : Type 0 where
  pub rom : (n ≡ 2048) ⊎ (n ≡ 4096)
  pub sound : Sound n m

-- what follows of the rules, and of a cycle of the hold; the numbers of stops hold of any machine
abbrev pub Goes : ℕ → Machine → Outcome → Type 0
Goes n m (Stops k p) = (code_stop ≤ k) × (k ≤ reference_stop)
Goes n m (Does e d t) = Given n m → Fine e × SoundCpu n d

-- code addresses
rom_small : (n : ℕ) → (n ≡ 2048) ⊎ (n ≡ 4096) → n ≤ 4096
rom_small n (inl e) = omega arith
rom_small n (inr e) = omega arith

next_small : (n p : ℕ) → wrap_of n p < 65536
next_small n p = either (λ (x : ℕ). x < 65536) (eqb n 4096) {x = p % 4096} {y = p % 2048} (omega arith) (omega arith)

banks : {n : ℕ} {c : Cpu} → SoundCpu n c → Banks c
banks s = record { smb = s.smb; srb = s.srb; mode = s.mode }

-- idle and stop mode
idle_cpu_lem : (n : ℕ) (m : Machine) → SoundCpu n m.cpu → SoundCpu n (idle_cpu m)
idle_cpu_lem n m s =
    let r = either (λ (x : ℕ). x ≤ 2) (eqb (ime_of m.mem) 1) {x = 2} {y = m.cpu.release} (omega arith) s.release in
    record {
      pc = s.pc;
      smb = s.smb;
      srb = s.srb;
      mode = either (λ (x : ℕ). x ≤ 2) (wakes_of m.mem) {x = running} {y = m.cpu.mode} (omega arith) s.mode;
      effect = s.effect;
      release = either (λ (x : ℕ). x ≤ 2) (wakes_vectored m.mem) r s.release;
      pins = s.pins;
      clock = s.clock;
      cursor = s.cursor;
      timing = s.timing;
      hold = s.hold;
    }

idle_goes : (n : ℕ) (m : Machine) → Goes n m (idle_of m)
unfolding idle_of
idle_goes n m = λ g. (jumps m (banks g.sound.cpu) 0, idle_cpu_lem n m g.sound.cpu)

-- a cycle of the hold
held_cpu : (n : ℕ) (c : Cpu) → SoundCpu n c → SoundCpu n (with_hold c (c.timing.hold - 1))
held_cpu n c s =
    let most = s.hold in
    record {
      pc = s.pc;
      smb = s.smb;
      srb = s.srb;
      mode = s.mode;
      effect = s.effect;
      release = s.release;
      pins = s.pins;
      clock = s.clock;
      cursor = s.cursor;
      timing = s.timing;
      hold = omega arith;
    }

held_goes : (n : ℕ) (m : Machine) → Goes n m (held_of m.cpu)
unfolding held_of
held_goes n m = λ g. (jumps m (banks g.sound.cpu) 0, held_cpu n m.cpu g.sound.cpu)

-- an interrupt's entry
flags_slot : (k : ℕ) → (slot_of (source_at k).flags < 640) × (slot_of (source_at k).flags ≡ 512 → ⊥)
unfolding source_at sources
flags_slot zero = (omega arith, omega arith)
flags_slot (suc zero) = (omega arith, omega arith)
flags_slot (suc (suc zero)) = (omega arith, omega arith)
flags_slot (suc (suc (suc zero))) = (omega arith, omega arith)
flags_slot (suc (suc (suc (suc zero)))) = (omega arith, omega arith)
flags_slot (suc (suc (suc (suc (suc zero))))) = (omega arith, omega arith)
flags_slot (suc (suc (suc (suc (suc (suc zero)))))) = (omega arith, omega arith)
flags_slot (suc (suc (suc (suc (suc (suc (suc k))))))) = (omega arith, omega arith)

answered_write : (l : List ℕ) (k : ℕ) → Harmless (acknowledged_of l k)
unfolding acknowledged_of
answered_write l k =
    elsewhere (slot_of (source_at k).flags) (with_bit (nib_at l (slot_of (source_at k).flags)) (source_at k).bit 0) (flags_slot k).0
    (flags_slot k).1

status_write_lem : (l : List ℕ) (v : ℕ) → Harmless (status_write l v)
unfolding status_write
status_write_lem l v = elsewhere 560 (4 * (is_of l + 1) + vector_flags v) (omega arith) (omega arith)

psw_small : (l : List ℕ) → psw_of l < 65536
unfolding psw_of
psw_small l = omega arith

entry_goes : (n : ℕ) (m : Machine) (k : ℕ) (v : Code) → Goes n m (entry_of n m k v)
unfolding entry_of
entry_goes n m k v =
    λ g.
    let s = g.sound.cpu in
    let p = vector_pc n v.b0 v.b1 in
    let small = rom_small n g.rom in
    let below = s.pc in (
      pushes (banks s) p m.cpu.pc (psw_of m.mem) (omega arith) (psw_small m.mem)
          (status_write_lem m.mem v.b0 & answered_write m.mem k & ended) tt,
      record {
        pc = wrap_small n (256 * (v.b0 % 16) + v.b1) g.rom;
        smb = s.smb;
        srb = s.srb;
        mode = s.mode;
        effect = omega arith;
        release = s.release;
        pins = s.pins;
        clock = s.clock;
        cursor = s.cursor;
        timing = s.timing;
        hold = s.hold;
      },
    )

-- an instruction, or a pair that a REF names
first_write_lem : (m : Machine) (x : ℕ) → Harmless (first_write m x)
unfolding first_write
first_write_lem m x =
    either Harmless (eqb x 0xC4) (memory_write Four (hl_in m) (reg_in m 0))
    (register_write_lem m.mem m.cpu.srb 0 (read4_in m (pointed_in m (x % 8))))

pair_fine : (m : Machine) (n x y : ℕ) → Banks m.cpu → Fine (pair_effect m n x y)
unfolding pair_effect
pair_fine m n x y b =
    either Fine (eqb (y / 16) 5) (then_step_reg_lem m b n (first_write_lem m x) (y % 8) 15 1)
    (either Fine (eqb (y / 16) 4) (then_step_reg_lem m b n (first_write_lem m x) (y % 8) 0 15) (then_increment_pair_lem m b n (first_write_lem m x) (y % 8)))

code_fine : (src : ℕ → Code) (m : Machine) (effect next x y z : ℕ) → Banks m.cpu → next < 65536 →
    Fine (effect_of (λ p. (src p).b0) (decode x y z) (under m effect) next)
code_fine src m effect next x y z b h =
    instruction (λ p. (src p).b0) (decode x y z) (under m effect) next (record { smb = b.smb; srb = b.srb; mode = b.mode }) h

-- its skip
after_cpu_lem : (n : ℕ) (c : Cpu) (e : Effect) (p s : ℕ) → (n ≡ 2048) ⊎ (n ≡ 4096) → SoundCpu n c → Fine e →
    SoundCpu n (after_cpu c e (wrap_of n p) (cond (eqb s 0) e.carried 0))
after_cpu_lem n c e p s r k f =
    let less = k.release in
    record {
      pc = wrap_small n p r;
      smb = f.smb;
      srb = f.srb;
      mode = f.mode;
      effect = either (λ (x : ℕ). x ≤ 3) (eqb s 0) {x = e.carried} {y = 0} f.carried (omega arith);
      release = omega arith;
      pins = k.pins;
      clock = k.clock;
      cursor = k.cursor;
      timing = k.timing;
      hold = k.hold;
    }

done_goes : (n : ℕ) (m : Machine) (e : Effect) (cycles to : ℕ) (s : Skipped) → (Given n m → Fine e) → Goes n m (done_of n m.cpu e cycles to s)
unfolding done_of
done_goes n m e cycles to (bytes s) f = λ g. (f g, after_cpu_lem n m.cpu e (to % 4096 + s) s g.rom g.sound.cpu (f g))
done_goes n m e cycles to undefined f = (omega arith, omega arith)

module _ (src : ℕ → Code) (n : ℕ) (m : Machine) where
  skip_goes : (e : Effect) (cycles : ℕ) → (Given n m → Fine e) → Goes n m (skip_of src n m.cpu e cycles)
  unfolding skip_of
  skip_goes e cycles f = done_goes n m e cycles (wrap_of n e.next) (skipped_of e.skip (src (wrap_of n e.next))) f

  carried_goes : (next cycles : ℕ) → next < 65536 → (x : Choice) → Goes n m (carried_out src n m next cycles x)
  unfolding carried_out
  carried_goes next cycles h (itself x y z) =
      skip_goes (effect_of (λ p. (src p).b0) (decode x y z) (under m m.cpu.effect) next) cycles
      (λ g. code_fine src m m.cpu.effect next x y z (banks g.sound.cpu) h)
  carried_goes next cycles h (referred x y z) =
      skip_goes (effect_of (λ p. (src p).b0) (decode x y z) (under m 0) next) cycles
      (λ g. code_fine src m 0 next x y z (banks g.sound.cpu) h)
  carried_goes next cycles h (pair x y) = skip_goes (pair_effect m next x y) cycles (λ g. pair_fine m next x y (banks g.sound.cpu))
  carried_goes next cycles h nothing = (omega arith, omega arith)

  ran_goes : (c : Code) → Goes n m (execution_of src n m c)
  unfolding execution_of
  ran_goes c =
      let next = after_code n m.cpu.pc c.info in
      let cycles = cycles_of c.info in
      either (Goes n m) (eqb c.info 0) {x = Stops code_stop m.cpu.pc} {y = carried_out src n m next cycles (choice_of src c)}
      (omega arith, omega arith) (carried_goes next cycles (next_small n (m.cpu.pc % 4096 + c.info % 4)) (choice_of src c))

  rules_go : Goes n m (rules_of src n m)
  unfolding rules_of
  rules_go =
      let k = enters_now m.mem m.cpu.release in
      let r = execution_of src n m (src m.cpu.pc) in
      let e = entry_of n m k (src (source_at k).vector) in
      either (Goes n m) (eqb m.cpu.mode running) {x = cond (eqb k no_source) r e} {y = idle_of m}
      (either (Goes n m) (eqb k no_source) {x = r} {y = e} (ran_goes (src m.cpu.pc)) (entry_goes n m k (src (source_at k).vector)))
      (idle_goes n m)

  pub action_go : Goes n m (action_of src n m)
  unfolding action_of
  action_go = either (Goes n m) (eqb m.cpu.timing.hold 0) {x = rules_of src n m} {y = held_of m.cpu} rules_go (held_goes n m)
