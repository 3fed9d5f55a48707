-- `calls::table_run` meets its contract: a verdict that refuses, and one that accepts.
-- Assumes nothing.
use mathlib.Core.Path.{◌≡◌, ◌∙◌, sym, ap}
use native.Mathlib.Omega.{arith}
use Prim.Native.Nat.{◌*◌}
use lib.ListN.{length}
use Rattle.table.proofs.Laws.{length_table_of}
use Rattle.verdicts.specs.Judged.{verdict_of}
use Rattle.verdicts.proofs.Accepted.{rom_long, taken_apart}
use Rattle.calls.proofs.Calling.{told, refusal, table_refused, table_ran}
use Rattle.calls.proofs.table_run.Goals as goal

pub returns-in-Err : goal.returns-in-Err
returns-in-Err c =
    let a = c.args in
    told (table_refused a.rom.now a.table.now a.state.now a.trace.now a.log.now a.start a.budget _ _ (sym (ap verdict_of c.in-Err.is) ∙ c.judge_tabled.ensures.verdict)) (refusal _ _ _ _ _ _ c.refused.ensures)

pub returns-in-Ok : goal.returns-in-Ok
returns-in-Ok c =
    let a = c.args in
    told (table_ran a.rom.now a.table.now a.state.now a.trace.now a.log.now a.start a.budget (sym (ap verdict_of c.in-Ok.is) ∙ c.judge_tabled.ensures.verdict)) c.ran.ensures.call

pub ran-requires-clause-rom0502_bound : goal.ran-requires-clause-rom0502_bound
ran-requires-clause-rom0502_bound c =
    let a = c.args in
    let w = taken_apart a.rom.now a.table.now a.state.now a.trace.now a.log.now a.start (sym c.judge_tabled.ensures.verdict ∙ ap verdict_of c.in-Ok.is) in
    let l : length a.table.now ≡ 4 * length a.rom.now = ap length w.tabled.table_is ∙ length_table_of a.rom.now in
    omega (arith, l, rom_long (length a.rom.now) w.tabled.rom_fits_lem)

pub ran-requires-clause-state_len : goal.ran-requires-clause-state_len
ran-requires-clause-state_len c =
    let a = c.args in
    (taken_apart a.rom.now a.table.now a.state.now a.trace.now a.log.now a.start (sym c.judge_tabled.ensures.verdict ∙ ap verdict_of c.in-Ok.is)).fit.long

pub ran-requires-clause-start_in_bounds : goal.ran-requires-clause-start_in_bounds
ran-requires-clause-start_in_bounds c =
    let a = c.args in
    (taken_apart a.rom.now a.table.now a.state.now a.trace.now a.log.now a.start (sym c.judge_tabled.ensures.verdict ∙ ap verdict_of c.in-Ok.is)).fit.start
