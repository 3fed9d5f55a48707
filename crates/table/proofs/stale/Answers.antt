use Rattle.std.proofs.Common.{◌∙◌, sym, arith}
use Rattle.table.proofs.Laws.{differs_on, differs_at, differs_end, differs_start}
use Rattle.table.proofs.stale.Goals as goal

pub loop-at-init : goal.loop-at-init
loop-at-init c = differs_start _ _ (omega arith)

pub returns-then-byte-expected : goal.returns-then-byte-expected
returns-then-byte-expected c = differs_at _ _ _ _ (omega arith) (λ e. c.if-byte-expected.true (e ∙ sym c.expected.ensures)) ∙ c.loop-at.invariant

pub loop-at-preserved : goal.loop-at-preserved
loop-at-preserved c = differs_on _ _ _ _ (omega arith) (c.if-byte-expected.false ∙ c.expected.ensures) ∙ c.loop-at.invariant

pub returns : goal.returns
returns c = differs_end _ _ _ _ c.loop-at-test.false ∙ c.loop-at.invariant
