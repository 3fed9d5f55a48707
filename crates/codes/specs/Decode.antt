-- Paper 01, "Codes and the table": a code fits a row if its bits are the row's fixed bits and the row's limited operand has one of its values. Of several
-- rows the one with the most fixed bits is read, the first printed if equal; a code that fits none is undefined, with length and cycles 0.
-- Assumes nothing.
use Rattle.std.specs.Prelude.{ℕ, ◌+◌, ◌*◌, Bool, true, false, cond, ◌&&◌, List, [], ◌∷◌, ◌++◌, eqb, ltb}
use Rattle.codes.specs.Cells.{Letter, agree, bits_of, fixed, operand}
use Rattle.codes.specs.Row.{Row, Limit, any, only, undefined, len}
use Rattle.codes.specs.Rows.{rows}
use Rattle.codes.specs.declared.Instr.{Instr}

abbrev pub member : ℕ → List ℕ → Bool
member x [] = false
member x (v ∷ vs) = cond (eqb x v) true (member x vs)

-- the limited operand has one of its values; o gives the operand of each letter
abbrev pub allows : Limit → (Letter → ℕ) → Bool
allows any o = true
allows (only l vs) o = member (o l) vs

-- a code, given by its bits, fits the row
abbrev pub fits : List ℕ → Row → Bool
fits bs w = agree w.cells bs && allows w.limit (λ l. operand l w.cells bs)

-- of the row w and those that fit after it, the first with the most fixed bits
abbrev pub best : (Row → Bool) → Row → List Row → Row
best f w [] = w
best f w (v ∷ vs) = best f (cond (f v && ltb (fixed w.cells) (fixed v.cells)) v w) vs

-- the row that a code is read by, from its first two bytes: no row has a fixed bit in a third
unfoldable pub row_of : ℕ → ℕ → Row
unfolding rows
row_of x y = best (fits (bits_of x ++ bits_of y)) undefined rows

-- length and cycles in one byte, as they stand in a table entry from bit 24 on
abbrev pub info_for : ℕ → ℕ → ℕ
info_for n c = n + 4 * c

-- length and cycles of a code; 0 for an undefined code
unfoldable pub info_of : ℕ → ℕ → ℕ
unfolding row_of
info_of x y = let w = row_of x y in info_for (len w) w.cycles

-- the instruction of a code that is read by the row w
abbrev pub instr_by : Row → ℕ → ℕ → ℕ → Instr
instr_by w x y z = w.instr (λ l. operand l w.cells (bits_of x ++ (bits_of y ++ bits_of z)))

-- the instruction of a code, from three bytes
unfoldable pub decode : ℕ → ℕ → ℕ → Instr
unfolding row_of
decode x y z = let w = row_of x y in instr_by w x y z
