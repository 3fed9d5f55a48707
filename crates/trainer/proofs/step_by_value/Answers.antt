-- `trainer::step_by_value` meets its contract: on both ways the law `trained`, from what the calls ensure and the test says.
-- Assumes nothing.
use Rattle.std.proofs.Common.{◌∙◌, eq-eqb}
use borrow.Author.Tests.{ne_eqb}
use Rattle.trainer.proofs.Training.{trained}
use Rattle.trainer.proofs.step_by_value.Goals as goal

pub returns-then-answer-eq0 : goal.returns-then-answer-eq0
returns-then-answer-eq0 c =
    let a = c.args in
    trained a.rom.now a.trace.now a.log.now a.start a.m _ _ _ c.plain_run-answer.result a.m c.image_of-state.ensures c.plain_run-answer.ensures
    (simp (eq-eqb _ _ c.if-answer-eq0.true))

pub returns-else-answer-eq0 : goal.returns-else-answer-eq0
returns-else-answer-eq0 c =
    let a = c.args in
    trained a.rom.now a.trace.now a.log.now a.start a.m _ _ _ c.plain_run-answer.result c.machine_of-after.result c.image_of-state.ensures
    c.plain_run-answer.ensures (c.machine_of-after.ensures ∙ simp (ne_eqb _ _ c.if-answer-eq0.false))
