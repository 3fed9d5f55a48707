use mathlib.Core.Path.{sym}
use Rattle.step.specs.Told.{stop_at}
use Rattle.runs.proofs.told.stop_at.Goals as goal

pub returns-in-Defined : goal.returns-in-Defined
unfolding stop_at
returns-in-Defined c = simp (sym c.kind.ensures, c.in-Defined.is)

pub returns-in-Undefined : goal.returns-in-Undefined
unfolding stop_at
returns-in-Undefined c = simp (sym c.kind.ensures, c.in-Undefined.is)

pub returns-in-Register : goal.returns-in-Register
unfolding stop_at
returns-in-Register c = simp (sym c.kind.ensures, c.in-Register.is)

pub returns-in-Bank : goal.returns-in-Bank
unfolding stop_at
returns-in-Bank c = simp (sym c.kind.ensures, c.in-Bank.is)
