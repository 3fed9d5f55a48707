-- Document 02, No. 7: "Number 9 remains for every undefined code but the two kinds named below .. 17 where only a register of Table 5-7 is outside its letter, and
-- .. 18 where only an SMB or SRB number is outside its set, both in 9's place": where a step stops with 9, the code at the stop's address, run or skipped, says
-- by its kind with which number.
-- Assumes nothing.
use Rattle.std.specs.Prelude.{ℕ, cond, eqb}
use Rattle.numbers.specs.Numbers.{code_stop, register_stop, bank_stop}
use Rattle.codes.specs.declared.Kind.{Kind}
use Rattle.codes.specs.declared.Kind.TheVariants.{Defined, Undefined, Register, Bank}
use Rattle.codes.specs.Kinds.{kind_of}
use Rattle.fetch.specs.declared.Code.{Code}

-- at a defined code no step stops with 9 (`undefined`, budgets, UnderNine.antt): its line is never asked for
abbrev pub stop_for : Kind → ℕ
stop_for Defined = code_stop
stop_for Undefined = code_stop
stop_for Register = register_stop
stop_for Bank = bank_stop

unfoldable pub stop_at : Code → ℕ
stop_at c = stop_for (kind_of c.b0 c.b1)

-- the number of a stop with k at the address p, src where codes come from
unfoldable pub number_at : (ℕ → Code) → ℕ → ℕ → ℕ
unfolding stop_at
number_at src k p = cond (eqb k code_stop) (stop_at (src p)) k
