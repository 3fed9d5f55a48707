-- Document 02, No. 6, as the program `slip` prints it: the bytes on standard output for those of rom.bin, of trace.bin and of standard input, which is an order
-- (marks, specs/Order.antt). Marks that can't be read are refused with 16, as are marks that litres refuses. The program reads a byte past the longest order and
-- no more: `bill_cut` (proofs/Bills.antt) says that this makes no difference. Assumes nothing.
use Rattle.std.specs.Prelude.{ℕ, cond, List, [], ◌∷◌}
use Rattle.numbers.specs.Numbers.{litres_refusal}
use Rattle.decimals.specs.Lines.{line_of}
use Rattle.text.specs.Budget.{steps_of}
use Rattle.marks.specs.Order.{budget_said, marks_said, is_readable}
use Rattle.slips.specs.Slip.{slip_text}

-- the text of marks that can't be read: the number alone
abbrev pub unread_text : List ℕ
unread_text = line_of (litres_refusal ∷ [])

unfoldable pub bill_of : List ℕ → List ℕ → List ℕ → List ℕ
bill_of rom trace order = cond (is_readable order) (slip_text rom trace (steps_of (budget_said order)) (marks_said order)) unread_text
