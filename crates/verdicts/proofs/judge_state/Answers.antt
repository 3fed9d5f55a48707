-- `verdicts::judge_state` meets its contract: a case for each test.
-- Assumes nothing.
use Rattle.std.proofs.Common.{arith}
use Rattle.image.proofs.Laws.{found_at}
use Rattle.verdicts.proofs.Judging.{field_says, later_says}
use Rattle.verdicts.proofs.judge_state.Goals as goal

pub overflow_cast-result : goal.overflow_cast-result
overflow_cast-result c = let z = found_at _ _ _ c.in-Some.ensures in omega (arith, z.0, z.1)

pub returns-in-Some-clause-says : goal.returns-in-Some-clause-says
returns-in-Some-clause-says c = field_says _ _ _ c.in-Ok.ensures.1 _ c.in-Some.ensures

pub returns-in-None-clause-says : goal.returns-in-None-clause-says
returns-in-None-clause-says c = later_says _ _ _ c.in-Ok.ensures.1 c.in-None.ensures
