use borrow.Author.Tests.{eq-eqb, ne_eqb}
use Rattle.step.specs.Told.{number_at}
use Rattle.runs.proofs.told.told.Goals as goal

pub returns-then-r-eq-CODE_STOP : goal.returns-then-r-eq-CODE_STOP
unfolding number_at
returns-then-r-eq-CODE_STOP c = simp (c.stop_at.ensures, c.code_at.ensures, eq-eqb _ _ c.if-r-eq-CODE_STOP.true)

pub returns-else-r-eq-CODE_STOP : goal.returns-else-r-eq-CODE_STOP
unfolding number_at
returns-else-r-eq-CODE_STOP c = simp (ne_eqb _ _ c.if-r-eq-CODE_STOP.false)
