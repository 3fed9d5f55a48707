-- `trainer::machine_of` meets its contract: the first 640 bytes and the scalars read are the machine that the image holds.
-- Assumes nothing.
use Rattle.std.proofs.Common.{◌≡◌, length, sym, rules, arith}
use Rattle.std.proofs.lemmas.List.{length-take-le}
use Rattle.chip.specs.State.{nibbles}
use Rattle.image.specs.Image.{image_size}
use Rattle.trainer.proofs.machine_of.Goals as goal

pub slice_bounds-copy_from_slice-end-2 : goal.slice_bounds-copy_from_slice-end-2
slice_bounds-copy_from_slice-end-2 c = sym (length-take-le nibbles c.args.s (let e : length c.args.s ≡ image_size = search rules in omega arith))

pub copy_from_slice-requires : goal.copy_from_slice-requires
copy_from_slice-requires c = sym (length-take-le nibbles c.args.s (let e : length c.args.s ≡ image_size = search rules in omega arith))
