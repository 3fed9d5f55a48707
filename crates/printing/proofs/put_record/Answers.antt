-- `put_record`: the line of the record that is read.
use Rattle.printing.specs.Printed.{record_line}
use Rattle.printing.proofs.put_record.Goals as goal

pub returns : goal.returns
unfolding record_line
returns c = (rw c.long_at-clock.ensures at c.line.ensures.text, c.line.ensures.end)
