-- `verdicts::judge_tabled` meets its contract: a case for each test.
-- Assumes nothing.
use Rattle.std.proofs.Common.{◌∙◌}
use borrow.Author.Tests.{eqb-true}
use Rattle.verdicts.specs.Verdicts.{run_verdict}
use Rattle.verdicts.proofs.Accepted.{rom_long, rom_short}
use Rattle.verdicts.proofs.Judging.{told, refusal, passed, on_image}
use Rattle.verdicts.proofs.judge_tabled.Goals as goal

pub returns-in_err-judge_rom : goal.returns-in_err-judge_rom
unfolding run_verdict
returns-in_err-judge_rom c = refusal _ _ _ _ _ c.from_residual.ensures.1 (c.in_err-judge_rom.ensures _)

pub judge_size-requires : goal.judge_size-requires
judge_size-requires c = rom_short _ (passed _ _ _ c.in_ok-judge_rom.ensures)

pub returns-in_err-judge_size : goal.returns-in_err-judge_size
unfolding run_verdict
returns-in_err-judge_size c = refusal _ _ _ _ _ c.from_residual-in_err-judge_size.ensures.1 (c.in_err-judge_size.ensures _ ∙ c.in_ok-judge_rom.ensures _)

pub returns-in_err-state : goal.returns-in_err-state
unfolding run_verdict
returns-in_err-state c =
    refusal _ _ _ _ _ c.from_residual-in_err-state.ensures.1 (c.in_err-state.ensures.says _ ∙ c.in_ok-judge_size.ensures _ ∙ c.in_ok-judge_rom.ensures _)

pub judge_table-requires : goal.judge_table-requires
judge_table-requires c =
    let fits = passed _ _ _ c.in_ok-judge_rom.ensures in
    (rom_long _ fits, rom_short _ fits, eqb-true _ _ (passed _ _ _ c.in_ok-judge_size.ensures))

pub returns-in_err-judge_table : goal.returns-in_err-judge_table
unfolding run_verdict
returns-in_err-judge_table c =
    refusal _ _ _ _ _ c.from_residual-in_err-judge_table.ensures.1
    (c.in_err-judge_table.ensures _ ∙ c.in_ok-state.ensures.says _ ∙ c.in_ok-judge_size.ensures _ ∙ c.in_ok-judge_rom.ensures _)

pub returns : goal.returns
unfolding run_verdict
returns c =
    told (c.in_ok-judge_table.ensures _ ∙ c.in_ok-state.ensures.says _ ∙ c.in_ok-judge_size.ensures _ ∙ c.in_ok-judge_rom.ensures _)
    (on_image _ _ _ _ c.in_ok-state.ensures.same c.judge_start.ensures)
