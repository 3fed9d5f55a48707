-- The rule of the table is computed at each of its entries.
-- Assumes nothing.
use Rattle.std.proofs.Common.{arith}
use Rattle.codes.specs.Entry.{entry_at}
use Rattle.codes.proofs.FirstByte.{firsts, rule}
use Rattle.codes.proofs.first.entry.Goals as goal

pub returns : goal.returns
unfolding firsts entry_at
returns c = rule c.args.b0 (omega arith) 0
