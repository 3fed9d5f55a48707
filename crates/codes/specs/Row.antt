-- A row of the binary code summaries, Tables 5-15 to 5-20: its instruction, its cycles without S, its printed bits, bit 7 of the first byte first, and the
-- operand that is limited. Paper 01 limits SMB, JR #im and REF; Table 5-6 limits the register letters.
-- Assumes nothing.
use Rattle.std.specs.Prelude.{ℕ, zero, suc, ◌+◌, ◌/◌, List, [], ◌∷◌, ◌++◌, length}
use Rattle.codes.specs.Cells.{Cell, Letter}
use Rattle.codes.specs.declared.Instr.{Instr}
use Rattle.codes.specs.declared.Instr.TheVariants.{Undefined}

-- the operands may have any values, or one letter's operand some values only
pub data Limit : Type 0 where
  any : Limit
  only : Letter → List ℕ → Limit

-- the instruction is given the operand of each letter
pub record Row : Type 0 where
  pub instr : (Letter → ℕ) → Instr
  pub cycles : ℕ
  pub cells : List Cell
  pub limit : Limit

-- rows of one, two and three bytes
abbrev pub one : ((Letter → ℕ) → Instr) → ℕ → List Cell → Limit → Row
one f c b1 w = record { instr = f; cycles = c; cells = b1; limit = w }

abbrev pub two : ((Letter → ℕ) → Instr) → ℕ → List Cell → List Cell → Limit → Row
two f c b1 b2 w = one f c (b1 ++ b2) w

abbrev pub three : ((Letter → ℕ) → Instr) → ℕ → List Cell → List Cell → List Cell → Limit → Row
three f c b1 b2 b3 w = one f c (b1 ++ (b2 ++ b3)) w

-- what an undefined code is read by: no bits, no length, no cycles
abbrev pub undefined : Row
undefined = one (λ o. Undefined) 0 [] any

-- a row's length in bytes
abbrev pub len : Row → ℕ
len w = length w.cells / 8

-- the banks that SMB takes
abbrev pub banks : List ℕ
banks = 0 ∷ 1 ∷ 15 ∷ []

-- n numbers from m on, s apart
abbrev pub up_from : ℕ → ℕ → ℕ → List ℕ
up_from zero m s = []
up_from (suc n) m s = m ∷ up_from n (m + s) s

-- how far JR #im goes
abbrev pub far : List ℕ
far = up_from 15 1 1

-- the even addresses of the reference area, 0020H to 007EH
abbrev pub memc : List ℕ
memc = up_from 48 0x20 2
