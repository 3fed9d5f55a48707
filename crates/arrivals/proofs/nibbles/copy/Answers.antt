use Rattle.std.proofs.Common.{arith, sym}
use lib.Seq.{length-take-le}
use Rattle.chip.specs.State.{nibbles}
use Rattle.arrivals.proofs.Copying.{prefix_copied}
use Rattle.arrivals.proofs.nibbles.copy.Goals as goal

pub slice_bounds-copy_from_slice-end-2 : goal.slice_bounds-copy_from_slice-end-2
slice_bounds-copy_from_slice-end-2 c = sym (length-take-le nibbles c.args.to.now (omega arith))

pub slice_bounds-copy_from_slice-end-3 : goal.slice_bounds-copy_from_slice-end-3
slice_bounds-copy_from_slice-end-3 c = sym (length-take-le nibbles c.args.from.now (omega arith))

pub copy_from_slice-requires : goal.copy_from_slice-requires
copy_from_slice-requires c = omega (arith, length-take-le nibbles c.args.from.now (omega arith), length-take-le nibbles c.args.to.now (omega arith))

pub returns : goal.returns
returns c = prefix_copied nibbles c.args.from.now c.args.to.now _ (omega arith) (omega arith) c.copy_from_slice.ensures.after
