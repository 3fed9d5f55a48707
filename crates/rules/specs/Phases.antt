-- Rules 2 to 4 of document 01's "One step", or the hold of document 02, No. 2, in the order in which a run carries them out: what the step meets, its
-- instruction, the effect of that, and the outcome. They make up `action_of` (`rules_told`, proofs/Phases.antt).
-- Assumes nothing.
use Rattle.std.specs.Prelude.{ℕ, ◌+◌, cond, eqb, ltb}
use Rattle.chip.specs.declared.Machine.{Machine}
use Rattle.chip.specs.Interrupts.{source_at}
use Rattle.chip.specs.Modes.{running}
use Rattle.numbers.specs.Numbers.{code_stop, reference_stop}
use Rattle.codes.specs.declared.Instr.{Instr}
use Rattle.fetch.specs.declared.Code.{Code}
use Rattle.effects.specs.declared.Effect.{Effect}
use Rattle.pending.specs.Pending.{no_source}
use Rattle.forms.specs.Operations.{effect_of}
use Rattle.outcomes.specs.declared.Outcome.{Outcome}
use Rattle.outcomes.specs.declared.Outcome.TheVariants.{Stops}
use Rattle.outcomes.specs.Outcomes.{skip_of, entry_of, idle_of, held_of}
use Rattle.rules.specs.declared.Chosen.{Chosen}
use Rattle.rules.specs.declared.Met.{Met}
use Rattle.rules.specs.Rules.{Choice, itself, referred, pair, nothing, choice_of, after_code, cycles_of, pair_effect, under, enters_now}

-- the kinds of what a step meets: those of a choice first, then an undefined code, the interrupt of source b0, a cycle of idle or stop mode,
-- a cycle of the hold. Those before `nothing_kind` are carried out.
abbrev pub itself_kind : ℕ
itself_kind = 0

abbrev pub referred_kind : ℕ
referred_kind = 1

abbrev pub pair_kind : ℕ
pair_kind = 2

abbrev pub nothing_kind : ℕ
nothing_kind = 3

abbrev pub undefined_kind : ℕ
undefined_kind = 4

abbrev pub entry_kind : ℕ
entry_kind = 5

abbrev pub idle_kind : ℕ
idle_kind = 6

abbrev pub held_kind : ℕ
held_kind = 7

-- in the place of a source, in the hold: none is served, and no code runs either
abbrev pub held_source : ℕ
held_source = no_source + 1

-- a choice by its kind and its bytes
abbrev pub chosen : ℕ → ℕ → ℕ → ℕ → Chosen
chosen kind b0 b1 b2 = record { kind = kind; b0 = b0; b1 = b1; b2 = b2 }

abbrev pub chosen_as : Choice → Chosen
chosen_as (itself x y z) = chosen itself_kind x y z
chosen_as (referred x y z) = chosen referred_kind x y z
chosen_as (pair x y) = chosen pair_kind x y 0
chosen_as nothing = chosen nothing_kind 0 0 0

-- what a step meets: size is N, next the address after the code
abbrev pub met_as : Chosen → ℕ → ℕ → ℕ → Met
met_as x next cycles n =
    record { kind = x.kind; b0 = x.b0; b1 = x.b1; b2 = x.b2; next = next; cycles = cycles; size = n }

abbrev pub bare : ℕ → ℕ → ℕ → Met
bare kind b0 n = met_as (chosen kind b0 0 0) 0 0 n

-- the code c at pc
unfoldable pub met_code : (ℕ → Code) → ℕ → ℕ → Code → Met
met_code src n pc c =
    cond (eqb c.info 0) (bare undefined_kind 0 n) (met_as (chosen_as (choice_of src c)) (after_code n pc c.info) (cycles_of c.info) n)

unfoldable pub fetched_of : (ℕ → Code) → ℕ → Machine → Met
unfolding met_code
fetched_of src n m =
    let k = enters_now m.mem m.cpu.release in
    cond (eqb m.cpu.timing.hold 0)
    (cond (eqb m.cpu.mode running) (cond (eqb k no_source) (met_code src n m.cpu.pc (src m.cpu.pc)) (bare entry_kind k n))
    (bare idle_kind 0 n)) (bare held_kind 0 n)

-- the effect of what is carried out, i the instruction of its bytes; that of the other kinds is not used
unfoldable pub executed_of : (ℕ → Code) → Machine → Instr → Met → Effect
executed_of src m i x =
    cond (eqb x.kind pair_kind) (pair_effect m x.next x.b0 x.b1)
    (effect_of (λ p. (src p).b0) i (under m (cond (eqb x.kind itself_kind) m.cpu.effect 0)) x.next)

unfoldable pub resolved_of : (ℕ → Code) → Machine → Met → Effect → Outcome
resolved_of src m x e =
    cond (ltb x.kind nothing_kind) (skip_of src x.size m.cpu e x.cycles)
    (cond (eqb x.kind nothing_kind) (Stops reference_stop m.cpu.pc)
    (cond (eqb x.kind undefined_kind) (Stops code_stop m.cpu.pc)
    (cond (eqb x.kind entry_kind) (entry_of x.size m x.b0 (src (source_at x.b0).vector))
    (cond (eqb x.kind idle_kind) (idle_of m) (held_of m.cpu)))))
