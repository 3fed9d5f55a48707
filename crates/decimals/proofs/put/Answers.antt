-- `decimals::put`: its digits are at most ten, and stand in their part of the line.
use native.Mathlib.Omega.{arith}
use mathlib.Core.Path.{◌≡◌, ◌∙◌}
use lib.ListN.{length}
use lib.Seq.{length-take-le}
use Rattle.decimals.proofs.Decimals.{at_most_ten, put_number}
use Rattle.decimals.proofs.put.Goals as goal

pub slice_bounds-copy_from_slice-end : goal.slice_bounds-copy_from_slice-end
slice_bounds-copy_from_slice-end c = omega (arith, at_most_ten c.decimal-k.result c.args.n c.ranges.n.fits c.decimal-k.ensures.len)

pub bounds-line-end : goal.bounds-line-end
bounds-line-end c = omega (arith, at_most_ten c.decimal-k.result c.args.n c.ranges.n.fits c.decimal-k.ensures.len, c.copy_from_slice.auto.self)

pub returns : goal.returns
returns c =
    let k = c.decimal-k.result in
    let s = c.copy_from_slice.new.self in
    let same : k ≡ length s = omega (arith, c.copy_from_slice.ensures.len, length-take-le k c.decimal-k.new.out c.decimal-k.ensures.in_bounds.0) in (
      put_number c.args.line.now s c.args.at c.args.after k c.args.n c.ranges.n.fits same c.decimal-k.ensures.len
          (c.copy_from_slice.ensures.after ∙ c.decimal-k.ensures.digits) c.requires,
      omega (arith, at_most_ten k c.args.n c.ranges.n.fits c.decimal-k.ensures.len),
    )
