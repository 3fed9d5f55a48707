-- Document 01, "Calls": what the two runs answer and leave, each by an equation, refused calls too. A refusal gives 0 steps and the log end
-- given, and leaves state and log as they are.
-- Assumes nothing.
use Rattle.std.specs.Prelude.{ℕ, ◌≡◌, List}
use Rattle.image.specs.Image.{machine_of, image_of}
use Rattle.fetch.specs.declared.Origin.{Origin}
use Rattle.fetch.specs.declared.Origin.TheVariants.{Rom, Table}
use Rattle.steps.specs.Steps.{Run, ending_number, ending_place, steps_over, step_by}
use Rattle.calls.specs.declared.Answer.{Answer}
use Rattle.verdicts.specs.Verdicts.{Verdict, accepted, refused_as, plain_verdict, run_verdict}

-- a call's answer, and the state and the log that it leaves
pub record Called : Type 0 where
  pub answer : Answer
  pub state : List ℕ
  pub log : List ℕ

abbrev pub answered : ℕ → ℕ → ℕ → ℕ → Answer
answered k n p e = record { number = k; steps = n; address = p; log_end = e }

-- a refusal with its number and place
abbrev pub refused : ℕ → ℕ → List ℕ → List ℕ → ℕ → Called
refused k p s g e = record { answer = answered k 0 p e; state = s; log = g }

-- the end of a run as a call tells it
abbrev pub ran_to : Run → Called
ran_to p =
    record {
      answer = answered (ending_number p.ending) p.steps (ending_place p.ending) p.end;
      state = image_of p.state;
      log = p.log;
    }

-- the steps of a budget b, from an accepted state s
unfoldable pub ran_in : Origin → List ℕ → List ℕ → List ℕ → List ℕ → ℕ → ℕ → Called
ran_in origin code s t g e b = ran_to (steps_over (step_by origin code t) b (machine_of s) g e)

-- the steps where what is given is accepted
unfoldable pub called_by : Verdict → Origin → List ℕ → List ℕ → List ℕ → List ℕ → ℕ → ℕ → Called
unfolding ran_in
called_by accepted origin code s t g e b = ran_in origin code s t g e b
called_by (refused_as k p) origin code s t g e b = refused k p s g e

-- the plain run: the machine that reads the ROM
unfoldable pub plain_call : List ℕ → List ℕ → List ℕ → List ℕ → ℕ → ℕ → Called
unfolding called_by plain_verdict
plain_call rom s t g e b = called_by (plain_verdict rom s t g e) Rom rom s t g e b

-- the table-driven run: its steps are handed the table and no ROM
unfoldable pub table_call : List ℕ → List ℕ → List ℕ → List ℕ → List ℕ → ℕ → ℕ → Called
unfolding called_by run_verdict
table_call rom table s t g e b = called_by (run_verdict rom table s t g e) Table table s t g e b

-- the equation of a call
pub record Call (w : Called) (r : Answer) (s g : List ℕ) : Type 0 where
  pub answer : r ≡ w.answer
  pub state : s ≡ w.state
  pub log : g ≡ w.log
