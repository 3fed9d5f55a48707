-- What the functions that test answer, beside the verdict of Call.antt: where they accept, what each head goes on with. A helper.
-- Assumes nothing.
use Rattle.std.specs.Prelude.{ℕ, ◌<◌, ◌≡◌, cond, Result, Ok, Err, eqb, length, get_or}
use Rattle.numbers.specs.Numbers.{done}
use Rattle.parts.specs.Parts.{most_heads}
use Rattle.parts.specs.declared.Unfit.{Unfit}
use Rattle.parts.specs.Judged as parts
use Rattle.image.specs.Image.{cpu_of}
use Rattle.trace.specs.Trace.{scan_of}
use Rattle.verdicts.specs.declared.Refusal.{Refusal}
use Rattle.verdicts.specs.Verdicts.{Verdict, accepted, refused_as}
use Rattle.verdicts.specs.Judged.{number_of, address_of}
use Rattle.heads.specs.declared.tests.Refused.{Refused}
use Rattle.heads.specs.declared.tests.Standing.{Standing}
use Rattle.heads.specs.Heads.{Lent, head_of}
use Rattle.heads.specs.Call.{no_answer, call_verdict}

-- a refusal before those of a run, as a call tells it
abbrev pub unfit_by : Unfit → Refused
unfit_by e = record { number = parts.number_of e; address = 0 }

-- a run's refusal as a call tells it
abbrev pub refused_by : Refusal → Refused
refused_by e = record { number = number_of e; address = address_of e }

-- what tests say: their refusal, or what the later tests do
abbrev pub before : {A : Type 0} → Result A Refused → Verdict → Verdict
before (Ok x) later = later
before (Err e) later = refused_as e.number e.address

abbrev pub verdict_in : Result Standing Refused → Verdict
verdict_in r = before r accepted

-- the tests of counts and lengths, of which n is the number
abbrev pub Sized : {A : Type 0} → Result A Refused → ℕ → Type 0
Sized r n = (later : Verdict) → before r later ≡ cond (eqb n done) later (refused_as n 0)

-- head i has its due time in `due` and its first answer in `answer`
pub record Begins (c : Lent) (i : ℕ) (r : Standing) : Type 0 where
  pub due : scan_of (head_of c i).trace (cpu_of (head_of c i).state).cursor ≡ Ok (get_or r.due i 0)
  pub answer : get_or r.answer i no_answer ≡ (head_of c i).answer

-- all heads have theirs, and there is no answer behind them
pub record AllBegin (c : Lent) (r : Standing) : Type 0 where
  pub due_long : length r.due ≡ most_heads
  pub answer_long : length r.answer ≡ most_heads
  pub begins : (i : ℕ) → i < c.count → Begins c i r
  pub past : (i : ℕ) → (i < c.count → ⊥) → get_or r.answer i no_answer ≡ no_answer

pub record Tested (c : Lent) (q : ℕ) (r : Result Standing Refused) : Type 0 where
  pub verdict : verdict_in r ≡ call_verdict c q
  pub stands : (x : Standing) → r ≡ Ok x → AllBegin c x
