-- `verdicts::judge_start` meets its contract: a case for each thing that the scan says.
-- Assumes nothing.
use Rattle.std.proofs.Common.{refl}
use Rattle.verdicts.proofs.Judging.{refusal, faulted, no_log, starts}
use Rattle.verdicts.proofs.judge_start.Goals as goal

pub returns-in_err-due : goal.returns-in_err-due
returns-in_err-due c =
    let a = c.args in
    refusal _ _ _ _ _ c.from_residual.ensures.1 (faulted a.state.now a.trace.now a.log.now a.start _ c.load.ensures _ c.in_err-due.ensures)

pub returns-then-log-start : goal.returns-then-log-start
returns-then-log-start c =
    let a = c.args in
    no_log a.state.now a.trace.now a.log.now a.start _ c.load.ensures _ c.in_ok-due.ensures c.if-log-start.true

pub returns : goal.returns
returns c =
    let a = c.args in
    starts a.state.now a.trace.now a.log.now a.start _ c.load.ensures _ c.in_ok-due.ensures c.if-log-start.false
