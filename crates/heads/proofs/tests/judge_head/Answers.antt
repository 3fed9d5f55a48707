-- `heads::tests::judge_head` meets its contract: the parts lent are the head's own bytes.
-- Assumes nothing.
use Prim.Native.Nat.{◌*◌}
use native.Mathlib.Omega.{arith}
use Rattle.image.specs.Image.{image_size}
use Rattle.parts.proofs.Laws.{width_part, trace_fits}
use Rattle.heads.proofs.Testing.{judged_alike}
use Rattle.heads.proofs.Turning.{trace_part}
use Rattle.heads.proofs.tests.judge_head.Goals as goal

pub overflow_add-trace : goal.overflow_add-trace
overflow_add-trace c = let a = c.args in omega (arith, c.trace_start-trace.ensures, trace_fits a.i a.lengths.now (omega arith))

pub slice_bounds-judge_own-end-2 : goal.slice_bounds-judge_own-end-2
slice_bounds-judge_own-end-2 c = let a = c.args in omega (arith, c.trace_start-trace.ensures, trace_fits a.i a.lengths.now (omega arith))

pub returns : goal.returns
returns c = let a = c.args in
    let at = c.trace_start-trace in
    judged_alike a.rom.now a.table.now a.start
    (width_part (image_size * a.i) image_size a.states.now)
    (trace_part a.i at.result a.lengths.now a.traces.now at.ensures)
    (width_part (a.part * a.i) a.part a.log.now)
    c.judge_own.ensures
