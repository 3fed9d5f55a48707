-- `put_lines`: the log's lines, and the last line behind them.
use mathlib.Core.Path.{◌∙◌, ap}
use Rattle.printing.specs.Printed.{log_lines}
use Rattle.printing.proofs.Printing.{put_together}
use Rattle.printing.proofs.put_lines.Goals as goal

pub returns : goal.returns
returns c =
    let a = c.args in
    let lines = c.put_log-to.ensures.0 ∙ ap log_lines c.written-n.ensures.0 in
    (put_together a.log.now a.end a.number a.steps a.address a.clock a.pc _ _ lines c.line.ensures.text, c.line.ensures.prefix_len)
