-- `trimmed_length`: the last byte that is no white space, or none.
use Rattle.std.proofs.Common.{rules, tests, arith}
use Rattle.io.proofs.Counting.{prefix_len_of_le}
use Rattle.marks.proofs.Trimming.{trimmed_none, trimmed_last}
use Rattle.marks.proofs.trimmed_length.Goals as goal

pub returns-in-Some : goal.returns-in-Some
returns-in-Some c =
    let text = c.args.text.now in
    let last = c.in-Some.last in
    (trimmed_last text last (search rules) (search (rules, tests)) (search (rules, tests)), prefix_len_of_le _ text (search rules))

pub returns-in-None : goal.returns-in-None
returns-in-None c = (trimmed_none c.args.text.now (search rules), prefix_len_of_le _ c.args.text.now (omega arith))
