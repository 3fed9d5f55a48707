-- The map of a record that was found says what the reader says. Assumes nothing.
use Rattle.std.proofs.Common.{arith, ◌∙◌}
use Rattle.tidy.proofs.Further.{again_shape, again_passes, again_past}
use Rattle.tidy.proofs.passage.further_again.Goals as goal

pub shape_of-h-requires : goal.shape_of-h-requires
shape_of-h-requires c = again_shape c.args.trace.now c.args.p (λ k. omega (arith, c.type_inv.trace k)) c.requires.1

pub past-requires : goal.past-requires
past-requires c =
    again_passes c.args.trace.now c.args.p (λ k. omega (arith, c.type_inv.trace k)) c.requires.1 c.shape_of-h.result c.shape_of-h.ensures c.requires.0

pub returns : goal.returns
returns c =
    c.past.ensures ∙
    again_past c.args.trace.now c.args.p (λ k. omega (arith, c.type_inv.trace k)) c.requires.1 c.shape_of-h.result c.shape_of-h.ensures
