-- `heads::turns::turn` meets its contract: the run on the head's own bytes, which are put back among all that is lent.
-- Assumes nothing.
use native.Mathlib.Omega.{arith}
use Prim.Native.Nat.{◌*◌}
use Rattle.image.specs.Image.{image_size}
use Rattle.parts.proofs.Laws.{width_part}
use Rattle.heads.proofs.Turning.{trace_part, trace_within, long, start, stands, steps_fit, made}
use Rattle.heads.proofs.turns.turn.Goals as goal

pub overflow_add-trace : goal.overflow_add-trace
overflow_add-trace c =
    let a = c.args in
    let l = trace_within a.i a.table.now a.states.now a.traces.now a.lengths.now a.log.now a.part a.q a.before a.due c.requires _ c.trace_start-trace.ensures in
    record { fits = omega (arith, l, c.well_formed) }

pub slice_bounds-ran-end-2 : goal.slice_bounds-ran-end-2
slice_bounds-ran-end-2 c =
    let a = c.args in
    trace_within a.i a.table.now a.states.now a.traces.now a.lengths.now a.log.now a.part a.q a.before a.due c.requires _ c.trace_start-trace.ensures

pub ran-r-requires : goal.ran-r-requires
ran-r-requires c =
    let a = c.args in
    let is = width_part (image_size * a.i) image_size a.states.now in
    let it = trace_part a.i _ a.lengths.now a.traces.now c.trace_start-trace.ensures in
    let ig = width_part (a.part * a.i) a.part a.log.now in
    record {
      rom0502_bound = c.requires.tabled;
      state_len = long a.i a.table.now a.states.now a.traces.now a.lengths.now a.log.now a.part a.q a.before a.due c.requires _ _ _ is it ig;
      start_in_bounds = start a.i a.table.now a.states.now a.traces.now a.lengths.now a.log.now a.part a.q a.before a.due c.requires _ _ _ is it ig;
      state_value = stands a.i a.table.now a.states.now a.traces.now a.lengths.now a.log.now a.part a.q a.before a.due c.requires _ _ _ is it ig;
    }

pub over_both-requires : goal.over_both-requires
over_both-requires c =
    let a = c.args in
    let is = width_part (image_size * a.i) image_size a.states.now in
    let it = trace_part a.i _ a.lengths.now a.traces.now c.trace_start-trace.ensures in
    let ig = width_part (a.part * a.i) a.part a.log.now in
    let r = c.ran-r in
    steps_fit a.i a.table.now a.states.now a.traces.now a.lengths.now a.log.now a.part a.q a.before a.due c.requires _ _ _ is it ig r.result _ _ r.ensures.call

pub returns : goal.returns
returns c =
    let a = c.args in
    let is = width_part (image_size * a.i) image_size a.states.now in
    let it = trace_part a.i _ a.lengths.now a.traces.now c.trace_start-trace.ensures in
    let ig = width_part (a.part * a.i) a.part a.log.now in
    let r = c.ran-r in
    made a.i a.table.now a.states.now a.traces.now a.lengths.now a.log.now a.part a.q a.before a.due c.requires _ _ _ is it ig r.result _ _ r.ensures.call r.ensures.due_after _ c.over_both.ensures
