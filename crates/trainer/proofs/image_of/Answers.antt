-- `trainer::image_of` meets its contract: the nibbles copied over the first 640 bytes and the scalars stored behind them are the image.
-- Assumes nothing.
use Rattle.image.proofs.Made.{image_made}
use Rattle.trainer.proofs.image_of.Goals as goal

pub returns : goal.returns
returns c = image_made c.args.m c.copy_from_slice.new.self _ _ c.copy_from_slice.ensures.len c.copy_from_slice.ensures.after c.store.ensures
