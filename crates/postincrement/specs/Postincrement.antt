-- Data transfer, Tables 5-11 and 5-17: LDI, LDD, XCHI and XCHD. n is the address after the instruction.
-- Assumes nothing.
use Rattle.std.specs.Prelude.{ℕ, ◌+◌, cond, List, [], ◌∷◌, ◌++◌, eqb}
use Rattle.chip.specs.declared.Machine.{Machine}
use Rattle.rights.specs.declared.Width.TheVariants.{Four}
use Rattle.chip.specs.State.{nib_at}
use Rattle.chip.specs.Memory.{write_of}
use Rattle.registers.specs.Registers.{register_at}
use Rattle.effects.specs.declared.Effect.{Effect}
use Rattle.effects.specs.Effects.{no_skip, skip_next, doing, puts_of}
use Rattle.effects.specs.Operands.{reg_in, to_reg, read4_in}

-- LDI, LDD, XCHI, XCHD: after the writes ws the L that stands there is stepped; it skips where L was the last value
abbrev pub step_l : Machine → ℕ → ℕ → ℕ → List ℕ → Effect
step_l m n last by ws =
    let l = nib_at (puts_of m.mem ws) (register_at m.mem m.cpu.srb 2) in
    doing m.cpu n (cond (eqb l last) skip_next no_skip) 0 (ws ++ (to_reg m 2 (l + by) ∷ []))

unfoldable pub load_step : Machine → ℕ → ℕ → ℕ → ℕ → Effect
load_step m n a last by = step_l m n last by (to_reg m 0 (read4_in m a) ∷ [])

unfoldable pub exchange_step : Machine → ℕ → ℕ → ℕ → ℕ → Effect
exchange_step m n a last by = step_l m n last by (to_reg m 0 (read4_in m a) ∷ write_of Four a (reg_in m 0) ∷ [])
