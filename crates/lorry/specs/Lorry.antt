-- Document 02, No. 5: what holds of a call for several heads. "A call gives a stated number of turns, fewer only once every head has stopped. .. Within a call a
-- head that hasn't stopped waits at most 8 turns. For each head by itself, its turns are a list of budgets and end as the plain machine would."
-- Assumes nothing.
use Rattle.std.specs.Prelude.{ℕ, suc, ◌+◌, ◌*◌, ◌≤◌, ◌<◌, ◌≡◌, true, false, cond, eqb, length, take, drop, replicate, get_or}
use mathlib.Core.List.{List, [], ◌∷◌, Memᴰ}
use Rattle.parts.specs.Parts.{most_heads}
use Rattle.steps.specs.Steps.{Run}
use Rattle.calls.specs.declared.Answer.{Answer}
use Rattle.calls.specs.Calls.{ran_to}
use Rattle.budgets.specs.Claim.{plain_machine, Listed, calls_over, total}
use Rattle.heads.specs.Heads.{Lent, Head, Heads, state_at, log_at, share, head_of, turned, goes, Turns, turns_from}
use Rattle.heads.specs.Call.{no_answer, Dispatched, dispatch_of}

-- head i is one of those that had turns
abbrev pub Among : ℕ → List ℕ → Type 0
Among i order = Memᴰ i order

-- how many turns head i had
unfoldable pub had : ℕ → List ℕ → ℕ
had i [] = 0
had i (j ∷ js) = cond (eqb j i) (suc (had i js)) (had i js)

-- "a call gives a stated number of turns, fewer only once every head has stopped": k turns of n heads, stated, came to t
pub record Given (n k : ℕ) (t : Turns) : Type 0 where
  pub no_more : length t.order ≤ k
  pub fewer : length t.order < k → (i : ℕ) → i < n → goes (t.heads i) ≡ false
  pub numbers : (i : ℕ) → Among i t.order → i < n

-- "Within a call a head that hasn't stopped waits at most 8 turns": where head i hasn't stopped after j turns of a call that states `most` more at least, it is
-- among those that have the next `most`; for any turn f of n heads hs
abbrev pub WaitsAtMost : ℕ → (Head → Head) → ℕ → ℕ → Heads → Type 0
WaitsAtMost most f n k hs =
    (i j : ℕ) → i < n → goes ((turns_from f n j 0 hs).heads i) ≡ true → j + most ≤ k → Among i (take most (drop j (turns_from f n k 0 hs).order))

-- the call's turns
abbrev pub turns_of : Lent → ℕ → ℕ → Turns
turns_of c q turns = turns_from (turned c.rom c.table q) c.count turns 0 (head_of c)

-- "its turns are a list of budgets": k of them, by themselves, on head i's own bytes
abbrev pub calls_of : Lent → ℕ → ℕ → ℕ → Listed
calls_of c q i k =
    let h = head_of c i in calls_over c.rom c.table h.trace h.state h.log h.answer.log_end (replicate k q)

-- the last answer, or that of a head without a turn
abbrev pub last_of : Answer → List Answer → Answer
last_of a [] = a
last_of a (r ∷ rs) = last_of r rs

-- head h is what the calls l left: the last number and address, the total of steps, the last end
pub record IsLeft (l : Listed) (h : Head) : Type 0 where
  pub state : h.state ≡ l.state
  pub log : h.log ≡ l.log
  pub end : h.answer.log_end ≡ l.end
  pub steps : h.answer.steps ≡ total l.answers
  pub number : h.answer.number ≡ (last_of no_answer l.answers).number
  pub address : h.answer.address ≡ (last_of no_answer l.answers).address

-- "as the plain machine would": that machine on head i's own bytes, over n steps, and a head as it leaves it
abbrev pub plain_of : Lent → ℕ → ℕ → Run
plain_of c i n = let h = head_of c i in plain_machine c.rom h.state h.trace h.log h.answer.log_end n

abbrev pub left_by : List ℕ → Run → Head
left_by trace p = record { state = (ran_to p).state; trace = trace; log = (ran_to p).log; answer = (ran_to p).answer }

-- "For each head by itself, its turns are a list of budgets and end as the plain machine would": head i after the turns t
pub record Alone (c : Lent) (q i : ℕ) (t : Turns) : Type 0 where
  pub list : IsLeft (calls_of c q i (had i t.order)) (t.heads i)
  pub plain : t.heads i ≡ left_by (head_of c i).trace (plain_of c i (had i t.order * q))

-- no head touches another's bytes: what a call d leaves in head i's place, and answers of it, is what head i alone came to, and a head without a turn is as it was
pub record Apart (c : Lent) (t : Turns) (d : Dispatched) : Type 0 where
  pub answer : (i : ℕ) → i < c.count → get_or d.answer.head i no_answer ≡ (t.heads i).answer
  pub state : (i : ℕ) → i < c.count → state_at i d.states ≡ (t.heads i).state
  pub log : (i : ℕ) → i < c.count → log_at i (share c) d.log ≡ (t.heads i).log
  pub rest : drop (share c * c.count) d.log ≡ drop (share c * c.count) c.log
  pub states_long : length d.states ≡ length c.states
  pub log_long : length d.log ≡ length c.log
  pub unturned : (i : ℕ) → had i t.order ≡ 0 → t.heads i ≡ head_of c i

-- the steps of a head over all its turns are a number of 32 bits
abbrev pub Fits : Lent → Turns → Type 0
Fits c t = (i : ℕ) → i < c.count → (t.heads i).answer.steps ≤ 4294967295

-- all of it, of a call with so many turns of q steps
pub record Holds (c : Lent) (q turns : ℕ) : Type 0 where
  pub given : Given c.count turns (turns_of c q turns)
  pub waits : WaitsAtMost most_heads (turned c.rom c.table q) c.count turns (head_of c)
  pub rounds : WaitsAtMost c.count (turned c.rom c.table q) c.count turns (head_of c)
  pub alone : (i : ℕ) → i < c.count → Alone c q i (turns_of c q turns)
  pub apart : Apart c (turns_of c q turns) (dispatch_of c q turns)
  pub fits : Fits c (turns_of c q turns)
