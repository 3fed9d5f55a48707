-- `calls::plain_run` meets its contract: a verdict that refuses, and one that accepts.
-- Assumes nothing.
use mathlib.Core.Path.{◌∙◌, sym, ap}
use lib.ListN.{length}
use Rattle.verdicts.specs.Judged.{verdict_of}
use Rattle.verdicts.proofs.Accepted.{rom_long, plain_accepted}
use Rattle.calls.proofs.Calling.{told, refusal, plain_refused, plain_ran}
use Rattle.calls.proofs.plain_run.Goals as goal

pub returns-in-Err : goal.returns-in-Err
returns-in-Err c =
    let a = c.args in
    told (plain_refused a.rom.now a.state.now a.trace.now a.log.now a.start a.budget _ _ (sym (ap verdict_of c.in-Err.is) ∙ c.judge_plain.ensures.verdict)) (refusal _ _ _ _ _ _ c.refused.ensures)

pub returns-in-Ok : goal.returns-in-Ok
returns-in-Ok c =
    let a = c.args in
    told (plain_ran a.rom.now a.state.now a.trace.now a.log.now a.start a.budget (sym (ap verdict_of c.in-Ok.is) ∙ c.judge_plain.ensures.verdict)) c.ran.ensures.call

pub ran-requires-clause-rom0502_bound : goal.ran-requires-clause-rom0502_bound
ran-requires-clause-rom0502_bound c =
    let a = c.args in
    rom_long (length a.rom.now) (plain_accepted a.rom.now a.state.now a.trace.now a.log.now a.start (sym c.judge_plain.ensures.verdict ∙ ap verdict_of c.in-Ok.is)).0

pub ran-requires-clause-state_len : goal.ran-requires-clause-state_len
ran-requires-clause-state_len c =
    let a = c.args in
    (plain_accepted a.rom.now a.state.now a.trace.now a.log.now a.start (sym c.judge_plain.ensures.verdict ∙ ap verdict_of c.in-Ok.is)).1.long

pub ran-requires-clause-start_in_bounds : goal.ran-requires-clause-start_in_bounds
ran-requires-clause-start_in_bounds c =
    let a = c.args in
    (plain_accepted a.rom.now a.state.now a.trace.now a.log.now a.start (sym c.judge_plain.ensures.verdict ∙ ap verdict_of c.in-Ok.is)).1.start
