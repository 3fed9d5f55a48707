-- `verdicts::judge_plain` meets its contract: a case for each test.
-- Assumes nothing.
use Rattle.std.proofs.Common.{◌∙◌}
use Rattle.verdicts.specs.Verdicts.{plain_verdict}
use Rattle.verdicts.proofs.Judging.{told, refusal, on_image}
use Rattle.verdicts.proofs.judge_plain.Goals as goal

pub returns-in_err-judge_rom : goal.returns-in_err-judge_rom
unfolding plain_verdict
returns-in_err-judge_rom c = refusal _ _ _ _ _ c.from_residual.ensures.1 (c.in_err-judge_rom.ensures _)

pub returns-in_err-state : goal.returns-in_err-state
unfolding plain_verdict
returns-in_err-state c = refusal _ _ _ _ _ c.from_residual-in_err-state.ensures.1 (c.in_err-state.ensures.says _ ∙ c.in_ok-judge_rom.ensures _)

pub returns : goal.returns
unfolding plain_verdict
returns c = told (c.in_ok-state.ensures.says _ ∙ c.in_ok-judge_rom.ensures _) (on_image _ _ _ _ c.in_ok-state.ensures.same c.judge_start.ensures)
