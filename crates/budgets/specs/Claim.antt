-- Demand 3 of the order, with the closing paragraphs of document 01's "Calls": one claim about the whole list of calls. "The table-driven run
-- is called once per budget, always with that ROM, table and trace, first on the state and log given and from the log start, then on the
-- state and log that the last call left and from its log end."
-- Assumes nothing.
use Rattle.std.specs.Prelude.{ℕ, zero, suc, ◌+◌, ◌*◌, ◌/◌, ◌≤◌, ◌<◌, ◌≡◌, ◌⊎◌, ◌↔◌, List, [], ◌∷◌, length, replicate, get_or, drop, Result, Ok, Err}
use Rattle.numbers.specs.Numbers.{Stop}
use Rattle.image.specs.Image.{machine_of, image_of}
use Rattle.fetch.specs.declared.Origin.TheVariants.{Rom}
use Rattle.steps.specs.Steps.{Run, stop, steps_over, step_by}
use Rattle.calls.specs.declared.Answer.{Answer}
use Rattle.verdicts.specs.Verdicts.{Verdict, accepted, refused_as, plain_verdict, run_verdict}
use Rattle.calls.specs.Calls.{answered, table_call}
use Rattle.startup.specs.Startup.{predecode_number, predecode_table}
use Rattle.budgets.specs.declared.Short.{Short}

-- the sum of the budgets, which may be more than a budget holds
unfoldable pub sum : List ℕ → ℕ
sum [] = 0
sum (b ∷ bs) = b + sum bs

-- the plain machine stepped over n: "given ROM, state, trace, log and log start, and no table"
abbrev pub plain_machine : List ℕ → List ℕ → List ℕ → List ℕ → ℕ → ℕ → Run
plain_machine rom s t g e n = steps_over (step_by Rom rom t) n (machine_of s) g e

-- what a list of calls leaves and answers
pub record Listed : Type 0 where
  pub state : List ℕ
  pub log : List ℕ
  pub end : ℕ
  pub answers : List Answer

abbrev pub first : Answer → Listed → Listed
first r c = record { state = c.state; log = c.log; end = c.end; answers = r ∷ c.answers }

-- a call for each budget, with the ROM, the table and the trace t
unfoldable pub calls_over : List ℕ → List ℕ → List ℕ → List ℕ → List ℕ → ℕ → List ℕ → Listed
unfolding table_call
calls_over rom table t s g e [] = record { state = s; log = g; end = e; answers = [] }
calls_over rom table t s g e (b ∷ bs) =
    first (table_call rom table s t g e b).answer
    (calls_over rom table t (table_call rom table s t g e b).state (table_call rom table s t g e b).log (table_call rom table s t g e b).answer.log_end bs)

-- the total of steps
unfoldable pub total : List Answer → ℕ
total [] = 0
total (r ∷ rs) = r.steps + total rs

-- a call that answers done
abbrev pub Done : Answer → Type 0
Done r = r.number ≡ 0

-- a call that gives the stop k at the place p
abbrev pub Gives : ℕ → ℕ → Answer → Type 0
Gives k p r = (r.number ≡ k) × (r.address ≡ p)

-- "no call is refused": each is done or stopped, with 9 to 12, 17 or 18
abbrev pub NoneRefused : List Answer → Type 0
NoneRefused [] = Unit {0}
NoneRefused (r ∷ rs) = (Done r ⊎ Stop r.number) × NoneRefused rs

-- "All calls answer done"
abbrev pub AllDone : List Answer → Type 0
AllDone [] = Unit {0}
AllDone (r ∷ rs) = Done r × AllDone rs

-- "the first that doesn't gives the plain machine's stop and place"
abbrev pub FirstGives : ℕ → ℕ → List Answer → Type 0
FirstGives k p [] = ⊥
FirstGives k p (r ∷ rs) = (Done r → FirstGives k p rs) × ((Done r → ⊥) → Gives k p r)

-- "gives them again, or done for budget 0", with the log end e and no step
abbrev pub Again : ℕ → ℕ → ℕ → ℕ → Answer → Type 0
Again k p e zero r = Gives 0 0 r × (r.steps ≡ 0) × (r.log_end ≡ e)
Again k p e (suc b) r = Gives k p r × (r.steps ≡ 0) × (r.log_end ≡ e)

abbrev pub EachAgain : ℕ → ℕ → ℕ → List ℕ → List Answer → Type 0
EachAgain k p e [] [] = Unit {0}
EachAgain k p e [] (r ∷ rs) = ⊥
EachAgain k p e (b ∷ bs) [] = ⊥
EachAgain k p e (b ∷ bs) (r ∷ rs) = Again k p e b r × EachAgain k p e bs rs

-- "and each later one gives them again": later than the first that isn't done, and with its log end
abbrev pub LaterGive : ℕ → ℕ → List ℕ → List Answer → Type 0
LaterGive k p [] [] = Unit {0}
LaterGive k p [] (r ∷ rs) = ⊥
LaterGive k p (b ∷ bs) [] = ⊥
LaterGive k p (b ∷ bs) (r ∷ rs) = (Done r → LaterGive k p bs rs) × ((Done r → ⊥) → EachAgain k p r.log_end bs rs)

-- "otherwise": the plain machine p has stopped, and so have the calls
pub record Stopped (p : Run) (bs : List ℕ) (rs : List Answer) : Type 0 where
  pub number : ℕ
  pub place : ℕ
  pub ending : p.ending ≡ stop number place
  pub first_gives : FirstGives number place rs
  pub later_give : LaterGive number place bs rs

-- "Where 01 accepts these": p is the plain machine stepped over the sum of the budgets bs
pub record Agrees (p : Run) (bs : List ℕ) (c : Listed) : Type 0 where
  pub one_each : length c.answers ≡ length bs
  pub unrefused : NoneRefused c.answers
  pub state : c.state ≡ image_of p.state
  pub log : c.log ≡ p.log
  pub end : c.end ≡ p.end
  pub steps : total c.answers ≡ p.steps
  pub all_done : AllDone c.answers ↔ (p.steps ≡ sum bs)
  pub otherwise : p.steps < sum bs → Stopped p bs c.answers

-- "An empty list leaves everything as given, with total 0 and the start as end."
pub record Empty (s g : List ℕ) (e : ℕ) (c : Listed) : Type 0 where
  pub state : c.state ≡ s
  pub log : c.log ≡ g
  pub end : c.end ≡ e
  pub no_step : total c.answers ≡ 0

-- the table is not the reason of a verdict: it is neither 2 nor 5, and it is the plain run's
pub record NotTheTable (v plain : Verdict) : Type 0 where
  pub not_its_length : (p : ℕ) → v ≡ refused_as 2 p → ⊥
  pub not_stale : (p : ℕ) → v ≡ refused_as 5 p → ⊥
  pub alike : v ≡ plain

-- the claim about the list of calls c
pub record Claim (rom table t s g : List ℕ) (e : ℕ) (bs : List ℕ) (c : Listed) : Type 0 where
  pub where_accepted : run_verdict rom table s t g e ≡ accepted → Agrees (plain_machine rom s t g e (sum bs)) bs c
  pub where_refused : (k p : ℕ) → run_verdict rom table s t g e ≡ refused_as k p →
      c ≡ record { state = s; log = g; end = e; answers = replicate (length bs) (answered k 0 p e) }
  pub for_none : bs ≡ [] → Empty s g e c
  pub predecoded : (old : List ℕ) → predecode_number rom old ≡ 0 → table ≡ predecode_table rom old →
      NotTheTable (run_verdict rom table s t g e) (plain_verdict rom s t g e)

-- an answer as four words, and the first n answers of a buffer of words
abbrev pub words_of : Answer → List ℕ
words_of r = r.number ∷ r.steps ∷ r.address ∷ r.log_end ∷ []

unfoldable pub answers_in : ℕ → List ℕ → List Answer
answers_in zero a = []
answers_in (suc n) a = answered (get_or a 0 0) (get_or a 1 0) (get_or a 2 0) (get_or a 3 0) ∷ answers_in n (drop 4 a)

-- what the function that makes n calls has left: the state s, the log g, its end, and the answers in the buffer a
abbrev pub left_in : List ℕ → List ℕ → ℕ → ℕ → List ℕ → Listed
left_in s g end n a = record { state = s; log = g; end = end; answers = answers_in n a }

-- it is the list of calls, the claim holds of it, and the rest of the buffer a₀ is as it was
pub record Left (rom table t s g : List ℕ) (e : ℕ) (bs : List ℕ) (c : Listed) (a₀ a : List ℕ) : Type 0 where
  pub calls : c ≡ calls_over rom table t s g e bs
  pub claim : Claim rom table t s g e bs c
  pub rest : drop (4 * length bs) a ≡ drop (4 * length bs) a₀

-- the outcome of the function: refused where the buffer for the answers is too short, with nothing touched; else the calls are made
abbrev pub ListMade : List ℕ → List ℕ → List ℕ → List ℕ → List ℕ → ℕ → List ℕ → List ℕ → Result ℕ Short → List ℕ → List ℕ → List ℕ → Type 0
ListMade rom table t s₀ g₀ e bs a₀ (Err short) s g a = (length a₀ / 4 < length bs) × (s ≡ s₀) × (g ≡ g₀) × (a ≡ a₀)
ListMade rom table t s₀ g₀ e bs a₀ (Ok end) s g a =
    (length bs ≤ length a₀ / 4) × Left rom table t s₀ g₀ e bs (left_in s g end (length bs) a) a₀ a
