-- Document 01, "Cases shown of the definitions", last section: a program "prints per log record "clock port nibble", then "number steps address
-- clock pc", in decimal". "One step": a record is the clock (4 bytes, low first), the port and the nibble.
-- Assumes nothing.
use Rattle.std.specs.Prelude.{ℕ, zero, suc, ◌/◌, List, [], ◌∷◌, ◌++◌, length, get_or, take, drop}
use Rattle.words.specs.Words.{long_at}
use Rattle.decimals.specs.Lines.{line_of}

-- the line of a log's first record, and those of its first n
unfoldable pub record_line : List ℕ → List ℕ
record_line log = line_of (long_at log 0 ∷ (get_or log 4 0 ∷ (get_or log 5 0 ∷ [])))

unfoldable pub record_lines : ℕ → List ℕ → List ℕ
record_lines zero log = []
record_lines (suc n) log = record_line log ++ record_lines n (drop 6 log)

-- the lines of a log, one for each six bytes
unfoldable pub log_lines : List ℕ → List ℕ
log_lines log = record_lines (length log / 6) log

-- the last line
unfoldable pub ending_line : (number steps address clock pc : ℕ) → List ℕ
ending_line number steps address clock pc = line_of (number ∷ (steps ∷ (address ∷ (clock ∷ (pc ∷ [])))))

-- the lines of the log up to its end, and the last line
unfoldable pub session_lines : (log : List ℕ) (end number steps address clock pc : ℕ) → List ℕ
session_lines log end number steps address clock pc = log_lines (take end log) ++ ending_line number steps address clock pc
