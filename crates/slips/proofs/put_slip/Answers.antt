-- `put_slip`: the text of lines that litres refuses, and that of others.
use Rattle.printing.specs.Printed.{ending_line}
use Rattle.slips.proofs.Slips.{refused_slip, whole_slip}
use Rattle.slips.proofs.put_slip.Goals as goal

pub returns-then-refusal-ne-DONE : goal.returns-then-refusal-ne-DONE
returns-then-refusal-ne-DONE c =
    let a = c.args in
    let said = c.line.ensures in
    (refused_slip a.lines a.marks.now a.ending _ c.if-refusal-ne-DONE.true said.text, said.prefix_len)

pub returns : goal.returns
unfolding ending_line
returns c =
    let a = c.args in
    (whole_slip a.lines a.marks.now a.ending _ _ _ c.if-refusal-ne-DONE.false c.put_unplaced-at.ensures.0 c.put_farms-to.ensures.0 c.line-2.ensures.text, c.line-2.ensures.prefix_len)
