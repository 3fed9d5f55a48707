-- A pair first, then a code of 2 bytes and 2 cycles.
-- Assumes nothing.
use Rattle.std.proofs.Common.{sym, ◌∙◌}
use Rattle.references.specs.Reference.{coded_of}
use Rattle.references.proofs.area.coded.Goals as goal

pub returns-then-pair : goal.returns-then-pair
unfolding coded_of
returns-then-pair c = simp (sym c.is_pair-pair.ensures ∙ c.if-pair.true)

pub returns-then-one : goal.returns-then-one
unfolding coded_of
returns-then-one c = simp (sym c.is_pair-pair.ensures ∙ c.if-pair.false, sym c.is_single-one.ensures ∙ c.if-one.true)

pub returns : goal.returns
unfolding coded_of
returns c = simp (sym c.is_pair-pair.ensures ∙ c.if-pair.false, sym c.is_single-one.ensures ∙ c.if-one.false)
