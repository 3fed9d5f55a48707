-- Document 01, "One step", 2 to 4: what the rules come to: a cycle of idle or stop mode, an interrupt entry, or an effect with its skip; and a cycle
-- of the hold of document 02, No. 2. src is where codes come from, n the ROM's length. Which of them a step does, `action_of` says (rules, Rules.antt).
-- Assumes nothing.
use Rattle.std.specs.Prelude.{ℕ, ◌+◌, ◌-◌, ◌*◌, ◌%◌, ◌/◌, cond, List, [], ◌∷◌, eqb}
use Rattle.chip.specs.declared.Cpu.{Cpu}
use Rattle.chip.specs.declared.Machine.{Machine}
use Rattle.chip.specs.Modes.{running}
use Rattle.numbers.specs.Numbers.{code_stop}
use Rattle.chip.specs.Scalars.{with_pc, with_smb, with_srb, with_mode, with_effect, with_release, with_hold}
use Rattle.chip.specs.State.{wrap_of, nibble_at, slot_of}
use Rattle.chip.specs.Memory.{write_to}
use Rattle.chip.specs.Reset.{vector_flags, vector_pc}
use Rattle.chip.specs.Interrupts.{ime_of, is_of}
use Rattle.references.specs.Coding.{is_ads}
use Rattle.fetch.specs.declared.Code.{Code}
use Rattle.effects.specs.declared.Effect.{Effect}
use Rattle.effects.specs.Effects.{no_skip, skip_ads, pushing}
use Rattle.control.specs.Control.{jump}
use Rattle.pending.specs.Pending.{wakes_vectored, wakes_of, acknowledged_of}
use Rattle.outcomes.specs.declared.Outcome.{Outcome}
use Rattle.outcomes.specs.declared.Outcome.TheVariants.{Stops, Does}

-- 2. In idle or stop mode one cycle passes. A source but INT0 that asks makes the mode running, with release count 2 where IME is 1 and one
-- of those sources is vectored.
abbrev pub release_of : Machine → ℕ
release_of m = cond (wakes_vectored m.mem) (cond (eqb (ime_of m.mem) 1) 2 m.cpu.release) m.cpu.release

abbrev pub idle_cpu : Machine → Cpu
idle_cpu m = with_release (with_mode m.cpu (cond (wakes_of m.mem) running m.cpu.mode)) (release_of m)

unfoldable pub idle_of : Machine → Outcome
idle_of m = Does (jump m.cpu 0) (idle_cpu m) 1

-- In the place of 2 to 4 after a reset: "the CPU is held for 2,048 cycles .., one cycle a step". What remains of them falls by one, and nothing else
-- changes.
unfoldable pub held_of : Cpu → Outcome
held_of c = Does (jump c 0) (with_hold c (c.timing.hold - 1)) 1

-- 3. The entry of source k: the old PSW is pushed; IS goes from 00 to 01 or from 01 to 10, EMB and ERB come from the vector v, the request
-- flag is cleared, and the carried effect becomes 0.
abbrev pub entry_cpu : Cpu → ℕ → Cpu
entry_cpu c pc = with_effect (with_pc c pc) 0

-- FB0H and FB1H as they are pushed, and the write of FB0H after the push
unfoldable pub psw_of : List ℕ → ℕ
psw_of l = nibble_at l 0xFB0 + 16 * nibble_at l 0xFB1

unfoldable pub status_write : List ℕ → ℕ → ℕ
status_write l b0 = write_to (slot_of 0xFB0) (4 * (is_of l + 1) + vector_flags b0)

unfoldable pub entry_of : ℕ → Machine → ℕ → Code → Outcome
entry_of n m k v =
    let pc = vector_pc n v.b0 v.b1 in
    Does (pushing m.cpu pc m.cpu.pc (psw_of m.mem) (status_write m.mem v.b0 ∷ acknowledged_of m.mem k ∷ [])) (entry_cpu m.cpu pc) 2

-- the scalars after an effect: the next address, the effect's selections and mode, the carried effect, and the release count, if not 0, less by
-- one
abbrev pub after_cpu : Cpu → Effect → ℕ → ℕ → Cpu
after_cpu c e pc carried =
    with_release (with_effect (with_mode (with_srb (with_smb (with_pc c pc) e.smb) e.srb) e.mode) carried) (c.release - 1)

-- what a skip passes: so many bytes, 0 where nothing is skipped; or it would skip an undefined code
pub data Skipped : Type 0 where
  bytes : ℕ → Skipped
  undefined : Skipped

-- c is the code at the next address
unfoldable pub skipped_of : ℕ → Code → Skipped
skipped_of skip c =
    cond (eqb skip no_skip) (bytes 0)
    (cond (eqb skip skip_ads) (bytes (cond (is_ads c.b0) 1 0)) (cond (eqb c.info 0) undefined (bytes (c.info % 4))))

-- S: 1 for a skipped code of 1 or 2 bytes, 2 for one of 3
abbrev pub extra_of : ℕ → ℕ
extra_of s = (s + 1) / 2

-- an effect with its skip at `to`
unfoldable pub done_of : ℕ → Cpu → Effect → ℕ → ℕ → Skipped → Outcome
done_of n c e cycles to (bytes s) = Does e (after_cpu c e (wrap_of n (to % 4096 + s)) (cond (eqb s 0) e.carried 0)) (cycles + extra_of s)
done_of n c e cycles to undefined = Stops code_stop to

unfoldable pub skip_of : (ℕ → Code) → ℕ → Cpu → Effect → ℕ → Outcome
unfolding skipped_of done_of
skip_of src n c e cycles = done_of n c e cycles (wrap_of n e.next) (skipped_of e.skip (src (wrap_of n e.next)))
