-- The pairs of Table 5-1: the second code goes by what the first wrote, x.
-- Assumes nothing.
use Rattle.std.specs.Prelude.{ℕ, ◌+◌, cond, [], ◌∷◌, eqb, ltb}
use Rattle.chip.specs.declared.Machine.{Machine}
use Rattle.chip.specs.State.{at}
use Rattle.chip.specs.Memory.{put_of}
use Rattle.effects.specs.declared.Effect.{Effect}
use Rattle.effects.specs.Effects.{no_skip, skip_next, doing}
use Rattle.arithmetic.specs.Arithmetic.{to_pair}
use Rattle.effects.specs.Operands.{reg_in, pair_in, to_reg}

-- the machine after the first code's write
abbrev pub after_write : Machine → ℕ → Machine
after_write m x = at (put_of m.mem x) m.cpu

-- then INCS R or DECS R
unfoldable pub then_step_reg : Machine → ℕ → ℕ → ℕ → ℕ → ℕ → Effect
then_step_reg m n x r last by =
    let k = after_write m x in
    doing m.cpu n (cond (eqb (reg_in k r) last) skip_next no_skip) 0 (x ∷ to_reg k r (reg_in k r + by) ∷ [])

-- then INCS RRb
unfoldable pub then_increment_pair : Machine → ℕ → ℕ → ℕ → Effect
then_increment_pair m n x r =
    let k = after_write m x in
    doing m.cpu n (cond (ltb (pair_in k r + 1) 256) no_skip skip_next) 0 (x ∷ to_pair k r (pair_in k r + 1) [])
