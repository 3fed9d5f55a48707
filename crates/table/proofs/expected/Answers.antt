use mathlib.Core.Path.{◌∙◌}
use Rattle.table.proofs.Laws.{low, high}
use Rattle.table.proofs.expected.Goals as goal

pub returns-then-k-lt3 : goal.returns-then-k-lt3
returns-then-k-lt3 c = c.byte_at.ensures ∙ low c.args.rom.now c.args.j c.requires.j_bound c.if-k-lt3.true

pub returns-else-k-lt3 : goal.returns-else-k-lt3
returns-else-k-lt3 c = c.info_at.ensures ∙ high c.args.rom.now c.args.j c.if-k-lt3.false
