-- `heads::tests::judge_own` meets its contract. Past head 0 the table is the ROM's own, and with that one the table-driven run says what the plain run says.
-- Assumes nothing.
use native.Mathlib.Omega.{arith}
use mathlib.Core.Path.{◌∙◌, sym, ap}
use mathlib.Core.List.{List}
use Prim.Native.Nat.{ℕ, ◌<◌}
use Rattle.verdicts.specs.Verdicts.{run_verdict}
use Rattle.verdicts.proofs.Judging.{told}
use Rattle.budgets.proofs.Verdicts.{like_plain}
use Rattle.heads.proofs.tests.judge_own.Goals as goal

pub returns-else-i-eq0 : goal.returns-else-i-eq0
returns-else-i-eq0 c = let start = c in
    let a = start.args in
    let past : 0 < a.i = omega arith in
    told
    (sym (ap (λ (x : List ℕ). run_verdict a.rom.now x a.state.now a.trace.now a.log.now a.start) (start.requires past) ∙ like_plain a.rom.now a.state.now a.trace.now a.log.now a.start))
    c.judge_plain.ensures
