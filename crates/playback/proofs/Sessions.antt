-- What the proofs of `playback::run` and `playback::session` cite: a session that fresh refuses, one that is played, and its text; and what is
-- printed for a text that says the budget, however that is cut. Assumes nothing.
use Prim.Native.Nat.{ℕ}
use mathlib.Core.Path.{◌≡◌, ◌∙◌, ap}
use mathlib.Core.List.{List, flatten}
use borrow.Author.Tests.{eq-eqb, ne_eqb}
use Rattle.chip.specs.declared.Cpu.{Cpu}
use Rattle.image.specs.Image.{cpu_of}
use Rattle.calls.specs.declared.Answer.{Answer}
use Rattle.calls.specs.Calls.{Called, Call, plain_call}
use Rattle.startup.specs.Startup.{fresh_number, fresh_state}
use Rattle.text.specs.Budget.{steps_of, budget_of}
use Rattle.text.specs.Pieces.{absorbed_all, said_of}
use Rattle.text.specs.declared.budget.Seen.TheVariants.{Before}
use Rattle.text.proofs.Reading.{read_whole}
use Rattle.playback.specs.declared.Ending.{Ending}
use Rattle.playback.specs.Session.{empty_log, blank, played_from, ending_of, unstarted, session_of, log_of, text_of, session_text, printed_for}

-- an answer and the clock and the PC of a state's scalars
abbrev ending : Answer → Cpu → Ending
ending a c = record { answer = a; clock = c.clock; pc = c.pc }

ended : (w : Called) (a : Answer) (s g : List ℕ) (c : Cpu) → Call w a s g → c ≡ cpu_of s → ending a c ≡ ending_of w
ended w a s g c k e = ap (λ (x : Answer). ending x c) k.answer ∙ ap (ending w.answer) (e ∙ ap cpu_of k.state)

module _ (rom trace log : List ℕ) (budget n : ℕ) (e : n ≡ fresh_number rom blank) where
  pub fails : (r : Ending) → (n ≡ 0 → ⊥) → r ≡ unstarted n → (r ≡ session_of rom trace budget log) × (log ≡ log_of rom trace budget log)
  unfolding session_of log_of
  fails r z h = (rw (← e, ne_eqb n 0 z) h, rw (← e, ne_eqb n 0 z))

  module _ (z : n ≡ 0) (s s' g : List ℕ) (f : s ≡ fresh_state rom blank) (a : Answer) (k : Call (plain_call rom s trace log 0 budget) a s' g) where
    pub plays : (c : Cpu) → c ≡ cpu_of s' → ending a c ≡ session_of rom trace budget log
    unfolding session_of played_from
    plays c h = rw (← e, eq-eqb n 0 z) (ended _ a s' g c k h ∙ ap (λ (t : List ℕ). ending_of (plain_call rom t trace log 0 budget)) f)

    pub logs : g ≡ log_of rom trace budget log
    unfolding log_of played_from
    logs = rw (← e, eq-eqb n 0 z) (k.log ∙ ap (λ (t : List ℕ). (plain_call rom t trace log 0 budget).log) f)

-- a session's text w, made from its ending and its log
pub put_together : (rom trace : List ℕ) (budget : ℕ) (e : Ending) (log w : List ℕ) → e ≡ session_of rom trace budget empty_log →
    log ≡ log_of rom trace budget empty_log → w ≡ text_of e log → w ≡ session_text rom trace budget
unfolding session_text
put_together rom trace budget e log w p q g =
    g
    ∙ ap (λ (x : List ℕ). text_of e x) q
    ∙ ap (λ (x : Ending). text_of x (log_of rom trace budget empty_log)) p

-- what is printed for the budget that pieces of a text say is what is printed for the whole text
pub printed_whole : (rom trace : List ℕ) (pieces : List (List ℕ)) →
    session_text rom trace (steps_of (said_of (absorbed_all Before pieces))) ≡ printed_for rom trace (flatten pieces)
unfolding printed_for budget_of
printed_whole rom trace pieces = rw (read_whole pieces)
