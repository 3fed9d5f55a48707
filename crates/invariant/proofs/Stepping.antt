-- Document 01, "One step": a step from an accepted machine leaves one that is accepted again, its log bytes fit the room that it is given, and
-- the cursor stands at a record's start or the end of the trace. A step that stops has one of the numbers 9 to 12, 17 and 18.
-- Assumes nothing.
use Prim.Native.Nat.{ℕ, ◌+◌, ◌-◌, ◌≤◌, ◌<◌}
use native.Mathlib.Omega.{arith}
use mathlib.Core.Path.{◌≡◌, refl, subst}
use mathlib.Core.Bool.{Bool, true, false, cond}
use mathlib.Core.List.{List}
use mathlib.Core.Logic.{◌⊎◌, inl, inr}
use borrow.Author.Tests.{ltb-false}
use lib.Dec.{eqb, ltb}
use lib.ListN.{length}
use Rattle.std.specs.Prelude.{Ok}
use Rattle.chip.specs.declared.Cpu.{Cpu}
use Rattle.chip.specs.declared.Machine.{Machine}
use Rattle.chip.proofs.Laws.{either}
use Rattle.numbers.specs.Numbers.{code_stop, clock_stop, full_stop, Stop}
use Rattle.chip.specs.Ports.{driven_of}
use Rattle.chip.specs.Scalars.{with_clock}
use Rattle.chip.specs.State.{rom0502, rom0504}
use Rattle.fetch.specs.declared.Code.{Code}
use Rattle.fetch.specs.declared.Origin.TheVariants.{Rom}
use Rattle.fetch.specs.Fetch.{code_at}
use Rattle.trace.specs.Trace.{scan_of}
use Rattle.events.specs.Records.{records_of}
use Rattle.effects.specs.declared.Effect.{Effect}
use Rattle.portlog.specs.Log.{logged}
use Rattle.outcomes.specs.declared.Outcome.{Outcome}
use Rattle.outcomes.specs.declared.Outcome.TheVariants.{Stops, Does}
use Rattle.codes.specs.declared.Kind.{Kind}
use Rattle.codes.specs.declared.Kind.TheVariants.{Defined, Undefined, Register, Bank}
use Rattle.codes.specs.Kinds.{kind_of}
use Rattle.rules.specs.Rules.{action_of}
use Rattle.step.specs.Told.{stop_for, stop_at, number_at}
use Rattle.step.specs.Step.{Out, moved, stopped, last_clock, ruled_of, logged_of, settled_of, untold_of, told_of, step_of, stands_at}
use Rattle.elapse.specs.Elapsed.{elapsed_of}
use Rattle.step.proofs.Settling.{step_stands}
use Rattle.invariant.specs.Sound.{Bytes, CodeBytes, SoundCpu, Sound}
use Rattle.invariant.proofs.Arrived.{records_sound}
use Rattle.invariant.proofs.Effects.{Fine}
use Rattle.invariant.proofs.Ruling.{Given, Goes, action_go}
use Rattle.invariant.proofs.Timed.{elapsed_sound}

-- the first byte of every code of a ROM is a byte
pub code_bytes : (rom : List ℕ) → Bytes rom → CodeBytes (code_at Rom rom)
unfolding code_at
code_bytes rom h p = h _

-- what follows of a step, r the machine after its records and v the code at 0000H, from which the watchdog's reset takes its vector
abbrev Lands : Code → ℕ → Machine → ℕ → Out → Type 0
Lands v n r room (moved m w) = v.b0 < 256 → Given n r → Sound n m × (length w ≤ room)
Lands v n r room (stopped k p) = (code_stop ≤ k) × (k ≤ full_stop)

-- the same as told: a stop's number may be 17 or 18
kind_stops : (k : Kind) → Stop (stop_for k)
kind_stops Defined = inl (omega arith, omega arith)
kind_stops Undefined = inl (omega arith, omega arith)
kind_stops Register = inr (omega arith, omega arith)
kind_stops Bank = inr (omega arith, omega arith)

abbrev Told : Code → ℕ → Machine → ℕ → Out → Type 0
Told v n r room (moved m w) = Lands v n r room (moved m w)
Told v n r room (stopped k p) = Stop k

lands_told : (src : ℕ → Code) (v : Code) (n : ℕ) (r : Machine) (room : ℕ) (o : Out) → Lands v n r room o → Told v n r room (told_of src o)
unfolding number_at stop_at
lands_told src v n r room (moved m w) h = h
lands_told src v n r room (stopped k p) h =
    either Stop (eqb k code_stop) {x = stop_for (kind_of (src p).b0 (src p).b1)} {y = k} (kind_stops (kind_of (src p).b0 (src p).b1)) (inl h)

clocked : (n : ℕ) (d : Cpu) (t : ℕ) → t ≤ last_clock - d.clock → SoundCpu n d → SoundCpu n (with_clock d (d.clock + t))
clocked n d t h s =
    let before = s.clock in
    record {
      pc = s.pc;
      smb = s.smb;
      srb = s.srb;
      mode = s.mode;
      effect = s.effect;
      release = s.release;
      pins = s.pins;
      clock = omega arith;
      cursor = s.cursor;
      timing = s.timing;
      hold = s.hold;
    }

module _ (v : Code) (n : ℕ) (r : Machine) (room : ℕ) where
  room_lands : (m : Machine) (w : List ℕ) (b : Bool) → ltb room (length w) ≡ b → (v.b0 < 256 → Given n r → Sound n m) →
      Lands v n r room (cond b (stopped full_stop 0) (moved m w))
  room_lands m w true e f = (omega arith, omega arith)
  room_lands m w false e f = λ byte g. (f byte g, ltb-false room (length w) e)

  logged_lands : (was : ℕ → ℕ) (m : Machine) → (v.b0 < 256 → Given n r → Sound n m) → Lands v n r room (logged_of was m room)
  unfolding logged_of
  logged_lands was m f = let w = logged m.cpu.clock was (driven_of m) in room_lands m w (ltb room (length w)) refl f

  -- the machine after the rules
  ruled_sound : (e : Effect) (d : Cpu) (t : ℕ) → t ≤ last_clock - d.clock → Given n r → Fine e × SoundCpu n d → Sound n (ruled_of r e d t)
  ruled_sound e d t h g f = record { mem = f.0.keeps r.mem g.sound.mem; cpu = clocked n d t h f.1 }

  clock_lands : (was : ℕ → ℕ) (e : Effect) (d : Cpu) (t : ℕ) (b : Bool) → ltb (last_clock - d.clock) t ≡ b →
      (Given n r → Fine e × SoundCpu n d) →
      Lands v n r room (cond b (stopped clock_stop 0) (logged_of was (elapsed_of v n r e t (ruled_of r e d t)) room))
  clock_lands was e d t true q f = (omega arith, omega arith)
  clock_lands was e d t false q f =
      logged_lands was (elapsed_of v n r e t (ruled_of r e d t))
      (λ byte g. elapsed_sound v n g.rom byte (ruled_of r e d t)
      (ruled_sound e d t (ltb-false (last_clock - d.clock) t q) g (f g)) r e t)

  settled_lands : (was : ℕ → ℕ) (s : Outcome) → Goes n r s → Lands v n r room (settled_of v n was r s room)
  unfolding settled_of
  settled_lands was (Stops k p) h = (h.0, omega arith)
  settled_lands was (Does e d t) h = clock_lands was e d t (ltb (last_clock - d.clock) t) refl h

module _ (src : ℕ → Code) (n : ℕ) (t : List ℕ) (m : Machine) (room : ℕ) where
  untold_lands : Lands (src 0) n (records_of (src 0) n t m) room (untold_of src n t m room)
  unfolding untold_of
  untold_lands = let r = records_of (src 0) n t m in settled_lands (src 0) n r room (driven_of m) (action_of src n r) (action_go src n r)

  -- without kinds a stop has one of the numbers 9 to 12
  pub untold_number : (k p : ℕ) → untold_of src n t m room ≡ stopped k p → (code_stop ≤ k) × (k ≤ full_stop)
  untold_number k p e = subst (Lands (src 0) n (records_of (src 0) n t m) room) e untold_lands

  step_lands : Told (src 0) n (records_of (src 0) n t m) room (step_of src n t m room)
  unfolding step_of
  step_lands = lands_told src (src 0) n (records_of (src 0) n t m) room (untold_of src n t m room) untold_lands

  pub stop_number : (k p : ℕ) → step_of src n t m room ≡ stopped k p → Stop k
  stop_number k p e = subst (Told (src 0) n (records_of (src 0) n t m) room) e step_lands

pub step_sound : (src : ℕ → Code) (n : ℕ) (t : List ℕ) (m : Machine) (room : ℕ) (m' : Machine) (w : List ℕ) (d : ℕ) →
    (n ≡ rom0502) ⊎ (n ≡ rom0504) → CodeBytes src → Sound n m → scan_of t m.cpu.cursor ≡ Ok d → step_of src n t m room ≡ moved m' w →
    Sound n m' × (length w ≤ room) × ((d' : ℕ) × (scan_of t m'.cpu.cursor ≡ Ok d'))
step_sound src n t m room m' w d rom bytes s h e =
    let k = records_of (src 0) n t m in
    let r = records_sound (src 0) n t m d rom (bytes 0) s h in
    let a = subst (Told (src 0) n k room) e (step_lands src n t m room) (bytes 0) (record { rom = rom; sound = r.0 }) in
    (a.0, a.1, (r.1.0, subst (λ (o : Out). stands_at t o r.1.0) e (step_stands src n t m room k refl r.1.0 r.1.1)))
