-- Past both tests the count is the answer, and where one fails the call is refused. Assumes nothing.
use Rattle.std.proofs.Common.{◌∙◌, sym}
use Rattle.litres.proofs.Answer.{by_marks, by_log, accepted}
use Rattle.litres.proofs.litres.Goals as goal
use Rattle.litres.proofs.litres.Goals.{else-are_marks-via-then-are_marks+else-is_log, else-are_marks-via-else-are_marks}

pub returns-then-is_log : goal.returns-then-is_log
returns-then-is_log c = c.counted.ensures ∙ sym (accepted _ _ (sym c.if-are_marks.ensures) (sym c.if-is_log.ensures))

pub returns-else-are_marks : goal.returns-else-are_marks
returns-else-are_marks c =
    c.refused.ensures
    ∙ sym (elim c.else-are_marks.branch [
      | else-are_marks-via-then-are_marks+else-is_log w ↦ by_log _ _ (sym w.if-is_log.ensures)
      | else-are_marks-via-else-are_marks w ↦ by_marks _ _ (sym w.if-are_marks.ensures)
    ])
