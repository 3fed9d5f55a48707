-- A trace lies within the buffer of all of them. Assumes nothing.
use Rattle.std.proofs.Common.{arith, take}
use Rattle.parts.proofs.Laws.{together_split, trace_fits}
use Rattle.parts.proofs.trace_start.Goals as goal

pub overflow_add-at : goal.overflow_add-at
overflow_add-at c =
    let before = take c.args.i c.args.lens.now in
    omega (arith, trace_fits c.loop-length.length-index before (omega arith), together_split c.args.i c.args.lens.now)
