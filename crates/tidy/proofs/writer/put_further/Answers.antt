-- A record that adds no bytes leaves the buffer as it is. Assumes nothing.
use Rattle.std.proofs.Common.{arith}
use Rattle.tidy.proofs.Growing.{grown, unchanged}
use Rattle.tidy.proofs.writer.put_further.Goals as goal

pub put_event-requires : goal.put_event-requires
put_event-requires c = (
  c.requires.0,
  c.further_again-q.ensures,
  c.if-p-q.true,
  omega (
    arith,
    grown c.args.trace.now (λ k. omega (arith, c.type_inv.trace k)) c.args.p c.further_again-q.result c.further_again-q.ensures,
    c.requires.2,
  ),
)

pub returns-else-p-q : goal.returns-else-p-q
returns-else-p-q c = (
  c.further_again-q.ensures,
  unchanged c.args.trace.now (λ k. omega (arith, c.type_inv.trace k)) c.args.p c.further_again-q.result c.further_again-q.ensures c.args.out.now
      (omega (arith, c.if-p-q.false)),
)
