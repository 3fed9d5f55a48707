use Prim.Native.Nat.{ℕ, suc, ◌<◌}
use native.Mathlib.Omega.{arith}
use native.Mathlib.Numerals.{add-one}
use mathlib.Core.Path.{◌≡◌, ◌∙◌, refl, sym, ap}
use mathlib.Core.List.{List}
use lib.ListN.{length, get_or, drop}
use Rattle.chip.specs.Memory.{put_of}
use Rattle.chip.specs.Reset.{table_9_1, with_values, reset_registers}
use Rattle.chip.proofs.Laws.{next_value, no_values}
use Rattle.chip.proofs.reset.reset_registers.Goals as goal

long : length table_9_1 ≡ 55
unfolding table_9_1
long = refl

pub loop-value-init : goal.loop-value-init
unfolding table_9_1
loop-value-init c = (refl, omega arith, refl)

pub loop-value-preserved : goal.loop-value-preserved
loop-value-preserved c =
    let l = c.loop-value in
    let i = l.value-index in (
      l.invariant.0,
      omega (arith, c.loop-value-test.true),
      ap (λ (k : ℕ). with_values c.put.new.mem (drop k table_9_1)) (add-one i) ∙
          ap (λ (m : List ℕ). with_values m (drop (suc i) table_9_1)) (c.put.ensures ∙ ap (λ (v : List ℕ). put_of l.mem (get_or v i 0)) l.invariant.0) ∙
          sym (next_value l.mem table_9_1 i (omega (arith, long, c.loop-value-test.true))) ∙ l.invariant.2,
    )

pub returns : goal.returns
unfolding reset_registers
returns c =
    let l = c.loop-value in
    sym (no_values l.mem table_9_1 l.value-index (omega (arith, long, c.loop-value-test.false))) ∙ l.invariant.2
