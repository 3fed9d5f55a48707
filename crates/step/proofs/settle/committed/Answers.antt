-- `step::settle::committed` meets its contract: a step that may change a driven value, with its log, and one that can't.
-- Assumes nothing.
use mathlib.Core.Path.{◌∙◌, ap}
use lib.ListN.{length}
use Rattle.chip.specs.declared.Machine.{Machine}
use Rattle.chip.specs.Scalars.{with_clock}
use Rattle.fetch.specs.Fetch.{code_at, size_of}
use Rattle.elapse.proofs.Elapsing.{passed_clock}
use Rattle.step.proofs.Settling.{silent_step, unlogged_step}
use Rattle.step.proofs.settle.committed.Goals as goal

pub returns-else-may_drive : goal.returns-else-may_drive
returns-else-may_drive c =
    let a = c.args in
    let v = code_at a.origin a.code.now 0 in
    let n = size_of a.origin (length a.code.now) in
    unlogged_step a.due (length a.log.now) a.kept a.saved.now a.mem.now a.log.now v n a.was a.e (with_clock a.d a.clock) a.n
    (silent_step a.kept a.d.timing.basic a.e c.may_drive.ensures c.if-may_drive.false) c.requires.n_lt_most_clocks c.commit_quiet.ensures (c.elapsed_quiet-x.ensures v n)

pub noted-requires : goal.noted-requires
noted-requires c =
    let a = c.args in
    let v = code_at a.origin a.code.now 0 in
    let n = size_of a.origin (length a.code.now) in
    ap (λ (m : Machine). m.cpu.clock) c.elapsed-x.ensures ∙ passed_clock v n a.was a.e a.n _
