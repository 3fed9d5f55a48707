-- `startup::predecode` meets its contract: a case for each test.
-- Assumes nothing.
use Rattle.std.proofs.Common.{◌∙◌}
use borrow.Author.Tests.{eqb-true, eqb-false}
use Rattle.verdicts.proofs.Accepted.{rom_long, rom_short}
use Rattle.verdicts.proofs.Judging.{passed, blocked}
use Rattle.startup.proofs.Starting.{told_by, pre_no_rom, pre_no_table, pre_made}
use Rattle.startup.proofs.predecode.Goals as goal

pub returns-in_err-judge_rom : goal.returns-in_err-judge_rom
returns-in_err-judge_rom c =
    let b = blocked _ 1 0 _ _ c.in_err-judge_rom.ensures in
    let p = pre_no_rom c.args.rom.now c.args.table.now b.0 in
    (told_by _ _ _ _ c.from_residual.ensures.1 b.1 ∙ p.0, p.1)

pub judge_size-requires : goal.judge_size-requires
judge_size-requires c = rom_short _ (passed _ _ _ c.in_ok-judge_rom.ensures)

pub returns-in_err-judge_size : goal.returns-in_err-judge_size
returns-in_err-judge_size c =
    let b = blocked _ 2 0 _ _ c.in_err-judge_size.ensures in
    let p = pre_no_table c.args.rom.now c.args.table.now (passed _ _ _ c.in_ok-judge_rom.ensures) (eqb-false _ _ b.0) in
    (told_by _ _ _ _ c.from_residual-in_err-judge_size.ensures.1 b.1 ∙ p.0, p.1)

pub fill-requires : goal.fill-requires
fill-requires c =
    let fits = passed _ _ _ c.in_ok-judge_rom.ensures in
    (rom_long _ fits, rom_short _ fits, eqb-true _ _ (passed _ _ _ c.in_ok-judge_size.ensures))

pub returns : goal.returns
returns c =
    pre_made c.args.rom.now c.args.table.now (passed _ _ _ c.in_ok-judge_rom.ensures) (eqb-true _ _ (passed _ _ _ c.in_ok-judge_size.ensures)) _ c.fill.ensures
