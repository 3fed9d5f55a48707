use Rattle.std.proofs.Common.{eq-eqb}
use borrow.Author.Tests.{ne_eqb}
use Rattle.codes.specs.Kinds.{outside_set}
use Rattle.decoder.proofs.kinds.outside_set.Goals as goal

pub returns-then-b0-eq221 : goal.returns-then-b0-eq221
unfolding outside_set
returns-then-b0-eq221 c = simp (c.no_bank.ensures, eq-eqb _ _ c.if-b0-eq221.true)

pub returns-else-b0-eq221 : goal.returns-else-b0-eq221
unfolding outside_set
returns-else-b0-eq221 c = simp (ne_eqb _ _ c.if-b0-eq221.false)
