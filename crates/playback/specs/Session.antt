-- Document 01, "Cases shown of the definitions", last section: a program "runs from fresh" "with a log of 60,000 bytes", and its last line has
-- "number steps address clock pc". A ROM that fresh refuses prints `1 0 0 0 0`.
-- Assumes nothing.
use Rattle.std.specs.Prelude.{ℕ, ◌≡◌, false, cond, List, length, replicate, eqb}
use Rattle.image.specs.Image.{cpu_of, image_size}
use Rattle.calls.specs.Calls.{Called, answered, plain_call}
use Rattle.startup.specs.Startup.{fresh_number, fresh_state}
use Rattle.verdicts.specs.Verdicts.{rom_fits}
use Rattle.text.specs.Budget.{budget_of}
use Rattle.printing.specs.Printed.{session_lines}
use Rattle.playback.specs.declared.Ending.{Ending}

abbrev pub log_size : ℕ
log_size = 60000

-- the log that a session is given
abbrev pub empty_log : List ℕ
empty_log = replicate log_size 0

-- the bytes that fresh writes the state to
abbrev pub blank : List ℕ
blank = replicate image_size 0

-- the plain run from the fresh state, its log written from the start on
unfoldable pub played_from : List ℕ → List ℕ → ℕ → List ℕ → Called
played_from rom trace budget log = plain_call rom (fresh_state rom blank) trace log 0 budget

-- a call's answer, and the clock and the PC of the state that it leaves
abbrev pub ending_of : Called → Ending
ending_of w = record { answer = w.answer; clock = (cpu_of w.state).clock; pc = (cpu_of w.state).pc }

-- fresh's refusal
abbrev pub unstarted : ℕ → Ending
unstarted number = record { answer = answered number 0 0 0; clock = 0; pc = 0 }

-- how a session ends
unfoldable pub session_of : List ℕ → List ℕ → ℕ → List ℕ → Ending
session_of rom trace budget log =
    cond (eqb (fresh_number rom blank) 0) (ending_of (played_from rom trace budget log)) (unstarted (fresh_number rom blank))

-- the log that it leaves
unfoldable pub log_of : List ℕ → List ℕ → ℕ → List ℕ → List ℕ
log_of rom trace budget log = cond (eqb (fresh_number rom blank) 0) (played_from rom trace budget log).log log

-- a ROM that fresh refuses ends as document 01 prints it
pub refused_rom : (rom trace log : List ℕ) (budget : ℕ) → rom_fits (length rom) ≡ false → session_of rom trace budget log ≡ unstarted 1
unfolding session_of fresh_number
refused_rom rom trace log budget h = simp h

-- the text of an ending and of the log that a session leaves
unfoldable pub text_of : Ending → List ℕ → List ℕ
text_of e log = session_lines log e.answer.log_end e.answer.number e.answer.steps e.answer.address e.clock e.pc

-- the text of a session with a budget
unfoldable pub session_text : List ℕ → List ℕ → ℕ → List ℕ
session_text rom trace budget = text_of (session_of rom trace budget empty_log) (log_of rom trace budget empty_log)

-- what the program prints for rom.bin, trace.bin and the text on standard input. It reads that text in pieces: `printed_whole`
-- (proofs/Sessions.antt) says that this makes no difference.
unfoldable pub printed_for : List ℕ → List ℕ → List ℕ → List ℕ
printed_for rom trace input = session_text rom trace (budget_of input)
