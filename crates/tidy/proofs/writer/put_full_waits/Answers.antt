-- One wait-only record more, behind the others. Assumes nothing.
use Rattle.std.proofs.Common.{ℕ, ◌+◌, arith, ◌∙◌, ap, List, ◌∷◌, length}
use Rattle.std.proofs.Math.Seq.{sets, length-sets}
use Rattle.tidy.specs.Tidy.{longest_wait, wait_bytes, full_wait_bytes}
use Rattle.tidy.proofs.Gaps.{full_size}
use Rattle.tidy.proofs.Putting.{one_more}
use Rattle.tidy.proofs.writer.put_full_waits.Goals as goal

pub put_map-to-requires : goal.put_map-to-requires
put_map-to-requires c =
    omega (
      arith,
      c.loop.invariant,
      ap length c.loop.invariant.1,
      length-sets c.args.out.now c.args.at (full_wait_bytes c.loop.counter),
      full_size c.loop.counter,
      full_size c.args.n,
    )

pub loop-preserved : goal.loop-preserved
loop-preserved c =
    let l = c.loop in
    let put = c.put_map-to.ensures in (
      omega (arith, put.0, l.invariant.0, full_size l.counter, full_size (l.counter + 1)),
      put.1 ∙ ap (λ (k : ℕ). sets l.out k (0 ∷ wait_bytes longest_wait)) l.invariant.0 ∙
          ap (λ (m : List ℕ). sets m (c.args.at + length (full_wait_bytes l.counter)) (0 ∷ wait_bytes longest_wait)) l.invariant.1 ∙
          one_more c.args.out.now c.args.at l.counter,
    )
