-- What holds of a slip: its last line is the one that document 01's program prints, and it is 16 alone exactly where the marks are refused, because a round's own
-- log is always taken. Assumes nothing.
use Prim.Native.Nat.{ℕ, ◌-◌}
use native.Mathlib.Omega.{arith}
use mathlib.Core.Path.{◌≡◌, refl, sym, ◌∙◌, ap}
use mathlib.Core.Bool.{Bool, true, false, cond}
use mathlib.Core.List.{List, [], ◌∷◌, ◌++◌}
use lib.Dec.{eqb}
use lib.ListN.{get_or, take}
use Rattle.numbers.specs.Numbers.{done, litres_refusal}
use Rattle.litres.specs.declared.Lines.{Lines}
use Rattle.litres.specs.Log.{is_log}
use Rattle.litres.specs.Farms.{are_marks}
use Rattle.litres.proofs.Laws.{log_none, log_is, marks_decide}
use Rattle.startup.specs.Startup.{fresh_number, fresh_state}
use Rattle.calls.specs.Calls.{Called}
use Rattle.roundlog.proofs.Holds.{logbook}
use Rattle.decimals.specs.Lines.{places_of, decimal_of, line_of}
use Rattle.printing.specs.Printed.{log_lines, session_lines}
use Rattle.playback.specs.declared.Ending.{Ending}
use Rattle.playback.specs.Session.{empty_log, blank, played_from, ending_of, unstarted, session_of, log_of, text_of}
use Rattle.slips.specs.Slip.{closing_line, slip_of, collected_of, slip_text}

pub same_closing : (e : Ending) (log : List ℕ) → text_of e log ≡ log_lines (take e.answer.log_end log) ++ closing_line e
unfolding text_of session_lines
same_closing e log = refl

-- the log of a round that is played, and of one that fresh refuses
played_log : (rom trace : List ℕ) (budget : ℕ) → let w = played_from rom trace budget empty_log in is_log (take w.answer.log_end w.log) ≡ true
unfolding played_from
played_log rom trace budget =
    let w = played_from rom trace budget empty_log in
    let whole : w.answer.log_end - 0 ≡ w.answer.log_end = omega arith in
    rw whole at (logbook.plain rom (fresh_state rom blank) trace empty_log 0 budget).is_log_lem

log_by : (b : Bool) (w : Called) (n : ℕ) → is_log (take w.answer.log_end w.log) ≡ true →
    is_log (take (cond b (ending_of w) (unstarted n)).answer.log_end (cond b w.log empty_log)) ≡ true
log_by true w n h = h
log_by false w n h = log_is 0 [] (log_none 0)

round_log : (rom trace : List ℕ) (budget : ℕ) → is_log (take (session_of rom trace budget empty_log).answer.log_end (log_of rom trace budget empty_log)) ≡ true
unfolding session_of log_of
round_log rom trace budget =
    log_by (eqb (fresh_number rom blank) 0) (played_from rom trace budget empty_log) (fresh_number rom blank) (played_log rom trace budget)

-- so the marks alone decide
pub decided : (rom trace marks : List ℕ) (budget : ℕ) → (collected_of rom trace budget marks).number ≡ cond (are_marks marks) done litres_refusal
unfolding collected_of
decided rom trace marks budget = marks_decide _ marks (round_log rom trace budget)

-- the number and a line end
abbrev pub sixteen : List ℕ
sixteen = 49 ∷ 54 ∷ 10 ∷ []

alone : (l : Lines) (marks : List ℕ) (e : Ending) → l.number ≡ litres_refusal → slip_of l marks e ≡ sixteen
unfolding slip_of line_of decimal_of places_of
alone l marks e h = rw h

more : (l : Lines) (marks : List ℕ) (e : Ending) → l.number ≡ done → get_or (slip_of l marks e) 0 0 ≡ 117
unfolding slip_of
more l marks e h = rw h

pub refused_alone : (rom trace marks : List ℕ) (budget : ℕ) → are_marks marks ≡ false → slip_text rom trace budget marks ≡ sixteen
unfolding slip_text
refused_alone rom trace marks budget h = alone (collected_of rom trace budget marks) marks _ (rw h at (decided rom trace marks budget))

pub alone_refused : (rom trace marks : List ℕ) (budget : ℕ) → slip_text rom trace budget marks ≡ sixteen → are_marks marks ≡ false
unfolding slip_text
alone_refused rom trace marks budget h = by (are_marks marks) refl
  where
    by : (b : Bool) → are_marks marks ≡ b → are_marks marks ≡ false
    by false e = e
    by true e =
        let begun = more (collected_of rom trace budget marks) marks (session_of rom trace budget empty_log) (rw e at (decided rom trace marks budget)) in
        let first : ◌≡◌ {A = ℕ} 117 49 = sym begun ∙ ap (λ (t : List ℕ). get_or t 0 0) h in
        absurd (omega arith)
