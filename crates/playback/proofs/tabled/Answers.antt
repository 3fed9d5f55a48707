-- `tabled`: over the ROM's own table the table-driven run answers and leaves what the plain run does.
use Rattle.calls.proofs.Calling.{told}
use Rattle.budgets.proofs.Verdicts.{run_alike}
use Rattle.playback.proofs.tabled.Goals as goal

pub returns : goal.returns
returns c =
    let a = c.args in
    told (run_alike a.rom.now _ a.state.now a.trace.now a.log.now 0 a.budget c.requires.rom_value c.fill.ensures) c.table_run.ensures
