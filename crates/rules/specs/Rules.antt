-- Document 01, "One step", 2 to 4: what a step does once its records are applied: a cycle of idle or stop mode, an interrupt entry, or one
-- instruction with its skip; and what document 02, No. 2, puts in the place of these. src is where codes come from, n the ROM's length.
-- Assumes nothing.
use Rattle.std.specs.Prelude.{ℕ, ◌+◌, ◌%◌, ◌/◌, cond, List, eqb}
use Rattle.chip.specs.declared.Machine.{Machine}
use Rattle.rights.specs.declared.Width.TheVariants.{Four}
use Rattle.chip.specs.Modes.{running}
use Rattle.numbers.specs.Numbers.{code_stop, reference_stop}
use Rattle.chip.specs.State.{at, wrap_of}
use Rattle.chip.specs.Memory.{write_of}
use Rattle.chip.specs.Interrupts.{source_at}
use Rattle.codes.specs.Decode.{decode}
use Rattle.references.specs.declared.area.Reference.{Reference}
use Rattle.references.specs.declared.area.Reference.TheVariants as reference
use Rattle.references.specs.Coding.{is_ref, area_of}
use Rattle.references.specs.Reference.{reference_of}
use Rattle.fetch.specs.declared.Code.{Code}
use Rattle.effects.specs.declared.Effect.{Effect}
use Rattle.effects.specs.Operands.{reg_in, to_reg, read4_in, hl_in, pointed_in}
use Rattle.postincrement.specs.Pairs.{then_step_reg, then_increment_pair}
use Rattle.forms.specs.Operations.{effect_of}
use Rattle.exec.specs.Exec.{facing}
use Rattle.pending.specs.Pending.{no_source, served_of}
use Rattle.outcomes.specs.declared.Outcome.{Outcome}
use Rattle.outcomes.specs.declared.Outcome.TheVariants.{Stops}
use Rattle.outcomes.specs.Outcomes.{idle_of, entry_of, skip_of, held_of}

-- what is carried out for a code: itself, by its bytes; the code or the pair that a REF names; or nothing
pub data Choice : Type 0 where
  itself : ℕ → ℕ → ℕ → Choice
  referred : ℕ → ℕ → ℕ → Choice
  pair : ℕ → ℕ → Choice
  nothing : Choice

-- TJP and TCALL stand for JP and CALL, DBH with the target's 14 bits
abbrev pub referred_of : Reference → Choice
referred_of (reference.Pair x y) = pair x y
referred_of (reference.Code x y) = referred x y 0
referred_of (reference.Jump a) = referred 0xDB (a / 256 % 64) (a % 256)
referred_of (reference.Call a) = referred 0xDB (64 + a / 256 % 64) (a % 256)
referred_of reference.Nothing = nothing

unfoldable pub choice_of : (ℕ → Code) → Code → Choice
choice_of src c =
    cond (is_ref c.b0) (referred_of (reference_of (src (area_of c.b0)).b0 (src (area_of c.b0)).b1))
    (itself c.b0 c.b1 c.b2)

-- a pair of Table 5-1 by its two bytes: the write of LD @HL,A (C4H) or LD A,@RRa, and then INCS R (5xH), DECS R (4xH) or INCS RRb. It does what
-- the two codes do one after the other (`pair_effect_lem`, proofs/Pairs.antt).
unfoldable pub first_write : Machine → ℕ → ℕ
first_write m b0 = cond (eqb b0 0xC4) (write_of Four (hl_in m) (reg_in m 0)) (to_reg m 0 (read4_in m (pointed_in m (b0 % 8))))

abbrev pub after_first : Machine → ℕ → ℕ → ℕ → Effect
after_first m n x b1 =
    cond (eqb (b1 / 16) 5) (then_step_reg m n x (b1 % 8) 15 1)
    (cond (eqb (b1 / 16) 4) (then_step_reg m n x (b1 % 8) 0 15) (then_increment_pair m n x (b1 % 8)))

unfoldable pub pair_effect : Machine → ℕ → ℕ → ℕ → Effect
unfolding first_write
pair_effect m n b0 b1 = after_first m n (first_write m b0) b1

-- what an instruction sees of a machine, under a carried effect
abbrev pub under : Machine → ℕ → Machine
under m effect = at m.mem (facing m.cpu.pc m.cpu.smb m.cpu.srb m.cpu.mode effect m.cpu.pins)

-- the outcome of what is carried out: next is the address after the code, of a REF the address after the REF; an effect carried into REF is
-- dropped; REF takes its own cycles; 10 where a REF names nothing
unfoldable pub carried_out : (ℕ → Code) → ℕ → Machine → ℕ → ℕ → Choice → Outcome
unfolding skip_of pair_effect
carried_out src n m next cycles (itself x y z) =
    skip_of src n m.cpu (effect_of (λ p. (src p).b0) (decode x y z) (under m m.cpu.effect) next) cycles
carried_out src n m next cycles (referred x y z) = skip_of src n m.cpu (effect_of (λ p. (src p).b0) (decode x y z) (under m 0) next) cycles
carried_out src n m next cycles (pair x y) = skip_of src n m.cpu (pair_effect m next x y) cycles
carried_out src n m next cycles nothing = Stops reference_stop m.cpu.pc

-- the address after a code at pc, and its cycles, from length + 4 × cycles
abbrev pub after_code : ℕ → ℕ → ℕ → ℕ
after_code n pc info = wrap_of n (pc % 4096 + info % 4)

abbrev pub cycles_of : ℕ → ℕ
cycles_of info = info / 4

-- 4. One instruction, c its code: 9 if it is undefined
unfoldable pub execution_of : (ℕ → Code) → ℕ → Machine → Code → Outcome
unfolding carried_out choice_of
execution_of src n m c =
    cond (eqb c.info 0) (Stops code_stop m.cpu.pc)
    (carried_out src n m (after_code n m.cpu.pc c.info) (cycles_of c.info) (choice_of src c))

-- the source that is served now: none while the release count is not 0
unfoldable pub enters_now : List ℕ → ℕ → ℕ
enters_now l release = cond (eqb release 0) (served_of l) no_source

unfoldable pub rules_of : (ℕ → Code) → ℕ → Machine → Outcome
unfolding idle_of entry_of execution_of
rules_of src n m =
    let k = enters_now m.mem m.cpu.release in
    cond (eqb m.cpu.mode running)
    (cond (eqb k no_source) (execution_of src n m (src m.cpu.pc)) (entry_of n m k (src (source_at k).vector)))
    (idle_of m)

-- Document 02, No. 2: "The step's records still apply first; then the hold takes the place of the step's other rules."
unfoldable pub action_of : (ℕ → Code) → ℕ → Machine → Outcome
unfolding held_of
action_of src n m = cond (eqb m.cpu.timing.hold 0) (rules_of src n m) (held_of m.cpu)
