-- `heads::tests::judge_sizes` meets its contract: a case for each test.
-- Assumes nothing.
use Rattle.std.proofs.Common.{◌∙◌, sym, ap}
use borrow.Author.Tests.{ne_eqb}
use Rattle.verdicts.specs.Verdicts.{refused_as}
use Rattle.verdicts.proofs.Accepted.{rom_short}
use Rattle.verdicts.proofs.Judging.{passed}
use Rattle.heads.specs.declared.tests.Refused.{Refused}
use Rattle.heads.specs.Call.{sizes_number}
use Rattle.heads.proofs.Testing.{unfit, no_rom, no_table, no_states, told_on}
use Rattle.heads.proofs.tests.judge_sizes.Goals as goal

pub returns-in_err-judge_heads : goal.returns-in_err-judge_heads
unfolding sizes_number
returns-in_err-judge_heads c = told_on _ _ _ c.from_residual.ensures.1 (unfit _ _ _ c.in_err-judge_heads.ensures)

pub returns-in_err-judge_rom : goal.returns-in_err-judge_rom
unfolding sizes_number
returns-in_err-judge_rom c =
    told_on _ _ _ c.from_residual-in_err-judge_rom.ensures.1 (no_rom _ _ _ _ (sym c.in_ok-judge_heads.ensures) _ _ c.in_err-judge_rom.ensures)

pub judge_size-requires : goal.judge_size-requires
judge_size-requires c = rom_short _ (passed _ _ _ c.in_ok-judge_rom.ensures)

pub returns-in_err-judge_size : goal.returns-in_err-judge_size
unfolding sizes_number
returns-in_err-judge_size c =
    told_on _ _ _ c.from_residual-in_err-judge_size.ensures.1
    (no_table _ _ _ _ (sym c.in_ok-judge_heads.ensures) _ _ (passed _ _ _ c.in_ok-judge_rom.ensures) c.in_err-judge_size.ensures)

pub returns-then-states-heads : goal.returns-then-states-heads
unfolding sizes_number
returns-then-states-heads c = λ later.
    ap (λ (x : Refused). refused_as x.number x.address) c.from.ensures ∙
    no_states _ _ _ _ (sym c.in_ok-judge_heads.ensures) (passed _ _ _ c.in_ok-judge_rom.ensures) (passed _ _ _ c.in_ok-judge_size.ensures)
    (ne_eqb _ _ c.if-states-heads.true) later
