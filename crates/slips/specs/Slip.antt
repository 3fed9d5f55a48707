-- Document 02, No. 6, as the office prints it of a round: a line "unplaced", a line for each farm, "at most 64", and behind them the last line of document 01's
-- program, "number steps address clock pc", all "in decimal"; of marks that are refused the number alone.
-- Assumes nothing.
use Rattle.std.specs.Prelude.{ℕ, suc, cond, List, [], ◌∷◌, ◌++◌, eqb, take}
use Rattle.numbers.specs.Numbers.{done}
use Rattle.litres.specs.declared.Lines.{Lines}
use Rattle.litres.specs.Lines.{lines_of}
use Rattle.decimals.specs.Lines.{line_of}
use Rattle.printing.specs.Printed.{ending_line}
use Rattle.playback.specs.declared.Ending.{Ending}
use Rattle.playback.specs.Session.{empty_log, session_of, log_of}

-- "unplaced" and a space
abbrev pub unplaced_word : List ℕ
unplaced_word = 117 ∷ 110 ∷ 112 ∷ 108 ∷ 97 ∷ 99 ∷ 101 ∷ 100 ∷ 32 ∷ []

-- the lines of the farms from farm k on: its number, the clock where it begins, its litres
unfoldable pub farm_lines : ℕ → List ℕ → List ℕ → List ℕ
farm_lines k [] litres = []
farm_lines k (m ∷ marks) [] = []
farm_lines k (m ∷ marks) (n ∷ litres) = line_of (k ∷ (m ∷ (n ∷ []))) ++ farm_lines (suc k) marks litres

-- the last line of an ending
abbrev pub closing_line : Ending → List ℕ
closing_line e = ending_line e.answer.number e.answer.steps e.answer.address e.clock e.pc

-- the text of what litres answers for the marks, and of how the round ended
unfoldable pub slip_of : Lines → List ℕ → Ending → List ℕ
slip_of l marks e =
    cond (eqb l.number done)
    (unplaced_word ++ line_of (l.unplaced ∷ []) ++ farm_lines 1 marks l.farm ++ closing_line e)
    (line_of (l.number ∷ []))

-- what litres answers of a round: its log is the bytes up to the log's end
unfoldable pub collected_of : List ℕ → List ℕ → ℕ → List ℕ → Lines
collected_of rom trace budget marks = lines_of (take (session_of rom trace budget empty_log).answer.log_end (log_of rom trace budget empty_log)) marks

-- the slip of a round
unfoldable pub slip_text : List ℕ → List ℕ → ℕ → List ℕ → List ℕ
slip_text rom trace budget marks = slip_of (collected_of rom trace budget marks) marks (session_of rom trace budget empty_log)
