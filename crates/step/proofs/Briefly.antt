-- The outcomes of the rules and of the hold take few cycles.
-- Assumes nothing.
use Prim.Native.Nat.{ℕ, ◌%◌, ◌<◌}
use native.Mathlib.Omega.{arith}
use mathlib.Core.Bool.{Bool, true, false, cond}
use lib.Dec.{eqb, ltb}
use Rattle.chip.specs.declared.Cpu.{Cpu}
use Rattle.chip.specs.declared.Machine.{Machine}
use Rattle.chip.specs.Interrupts.{source_at}
use Rattle.chip.specs.State.{wrap_of}
use Rattle.chip.proofs.Laws.{either}
use Rattle.numbers.specs.Numbers.{code_stop, reference_stop}
use Rattle.references.specs.Coding.{is_ads}
use Rattle.fetch.specs.declared.Code.{Code}
use Rattle.effects.specs.declared.Effect.{Effect}
use Rattle.effects.specs.Effects.{no_skip, skip_ads}
use Rattle.outcomes.specs.declared.Outcome.TheVariants.{Stops}
use Rattle.outcomes.specs.Outcomes.{Skipped, bytes, undefined, skipped_of, done_of, skip_of, entry_of, idle_of, held_of}
use Rattle.rules.specs.declared.Met.{Met}
use Rattle.rules.specs.Phases.{nothing_kind, undefined_kind, entry_kind, idle_kind, resolved_of}
use Rattle.step.specs.Brief.{Brief}

-- what a skip passes has at most 3 bytes
abbrev Short : Skipped → Type 0
Short (bytes s) = s < 4
Short undefined = Unit {0}

ads_short : (b : Bool) → Short (bytes (cond b 1 0))
ads_short true = omega arith
ads_short false = omega arith

skipped_short : (skip : ℕ) (c : Code) → Short (skipped_of skip c)
unfolding skipped_of
skipped_short skip c =
    let n : Short (bytes (c.info % 4)) = omega arith in
    let z : Short (bytes 0) = omega arith in
    either Short (eqb skip no_skip) z
    (either Short (eqb skip skip_ads) (ads_short (is_ads c.b0)) (either Short (eqb c.info 0) {x = undefined} {y = bytes (c.info % 4)} tt n))

done_brief : (n : ℕ) (c : Cpu) (e : Effect) (cycles to : ℕ) (s : Skipped) → cycles < 64 → Short s → Brief (done_of n c e cycles to s)
unfolding done_of
done_brief n c e cycles to (bytes s) h k = omega arith
done_brief n c e cycles to undefined h k = tt

skip_brief : (src : ℕ → Code) (n : ℕ) (c : Cpu) (e : Effect) (cycles : ℕ) → cycles < 64 → Brief (skip_of src n c e cycles)
unfolding skip_of
skip_brief src n c e cycles h =
    done_brief n c e cycles (wrap_of n e.next) (skipped_of e.skip (src (wrap_of n e.next))) h (skipped_short e.skip (src (wrap_of n e.next)))

entry_brief : (n : ℕ) (m : Machine) (k : ℕ) (v : Code) → Brief (entry_of n m k v)
unfolding entry_of
entry_brief n m k v = omega arith

idle_brief : (m : Machine) → Brief (idle_of m)
unfolding idle_of
idle_brief m = omega arith

held_brief : (c : Cpu) → Brief (held_of c)
unfolding held_of
held_brief c = omega arith

pub resolved_brief : (src : ℕ → Code) (m : Machine) (x : Met) (e : Effect) → x.cycles < 64 → Brief (resolved_of src m x e)
unfolding resolved_of
resolved_brief src m x e h =
    either Brief (ltb x.kind nothing_kind) (skip_brief src x.size m.cpu e x.cycles h)
    (either Brief (eqb x.kind nothing_kind) {x = Stops reference_stop m.cpu.pc} tt
    (either Brief (eqb x.kind undefined_kind) {x = Stops code_stop m.cpu.pc} tt
    (either Brief (eqb x.kind entry_kind) (entry_brief x.size m x.b0 (src (source_at x.b0).vector))
    (either Brief (eqb x.kind idle_kind) (idle_brief m) (held_brief m.cpu)))))
