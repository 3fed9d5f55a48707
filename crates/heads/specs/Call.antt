-- Document 02, No. 5: the call. "A head's own 1 to 8 refuses the whole call, lowest head first; a state buffer of any other length is 3, before any 4. A refused
-- call answers only that number and its address, for 4 and 6 counted in that head's own bytes. From here on a refusal writes nothing, and the counts or lengths
-- it answers are 0. .. It refuses 14 .., then 15 .., both before 1." The answer's count of turns is 0 (No. 11 will fill it).
-- Assumes nothing.
use Rattle.std.specs.Prelude.{ℕ, zero, suc, ◌*◌, ◌≡◌, cond, List, [], ◌∷◌, ◌++◌, eqb, ltb, length, drop, replicate}
use Rattle.numbers.specs.Numbers.{done, rom_refusal, table_refusal, image_refusal}
use Rattle.parts.specs.Parts.{most_heads, heads_number, joined}
use Rattle.image.specs.Image.{image_size}
use Rattle.verdicts.specs.Verdicts.{Verdict, accepted, refused_as, rom_fits, table_fits, run_verdict}
use Rattle.calls.specs.declared.Answer.{Answer}
use Rattle.calls.specs.Calls.{answered}
use Rattle.heads.specs.declared.HeadsAnswer.{HeadsAnswer}
use Rattle.heads.specs.Heads.{Lent, Heads, share, head_of, turned, turns_from}

-- head i's own tests
unfoldable pub head_verdict : Lent → ℕ → Verdict
unfolding head_of run_verdict
head_verdict c i = let h = head_of c i in run_verdict c.rom c.table h.state h.trace h.log h.answer.log_end

-- "lowest head first": k heads from head i on
abbrev pub or_else : Verdict → Verdict → Verdict
or_else accepted later = later
or_else (refused_as k p) later = refused_as k p

unfoldable pub first_refusal : (ℕ → Verdict) → ℕ → ℕ → Verdict
first_refusal v i zero = accepted
first_refusal v i (suc k) = or_else (v i) (first_refusal v (suc i) k)

-- the refusals that look at counts and lengths alone: 14 and 15, then 1, 2 and 3; or done
unfoldable pub sizes_number : ℕ → List ℕ → List ℕ → List ℕ → List ℕ → List ℕ → List ℕ → ℕ → ℕ
unfolding heads_number
sizes_number n rom table states traces lengths starts q =
    let number = heads_number n (length traces) lengths starts q in
    cond (eqb number done)
    (cond (rom_fits (length rom)) (cond (table_fits (length rom) (length table)) (cond (eqb (length states) (image_size * n)) done image_refusal) table_refusal) rom_refusal)
    number

-- then the heads
unfoldable pub call_verdict : Lent → ℕ → Verdict
unfolding sizes_number first_refusal head_verdict
call_verdict c q =
    let number = sizes_number c.count c.rom c.table c.states c.traces c.lengths c.starts q in
    cond (eqb number done) (first_refusal (head_verdict c) 0 c.count) (refused_as number 0)

-- what a call answers, and the states and the log that it leaves
pub record Dispatched : Type 0 where
  pub answer : HeadsAnswer
  pub states : List ℕ
  pub log : List ℕ

-- the answers f of heads 0 to k - 1
unfoldable pub listed : ℕ → (ℕ → Answer) → List Answer
listed zero f = []
listed (suc k) f = listed k f ++ (f k ∷ [])

abbrev pub no_answer : Answer
no_answer = answered 0 0 0 0

-- "A refused call answers only that number and its address": 0 in all else, and nothing written
abbrev pub refusing : ℕ → ℕ → HeadsAnswer
refusing number address = record { number = number; address = address; turns = 0; head = replicate most_heads no_answer }

abbrev pub refused : Lent → ℕ → ℕ → Dispatched
refused c number address = record { answer = refusing number address; states = c.states; log = c.log }

-- eight answers, those past the count 0; the states and the parts of the log one behind another, the remainder of the log as it was
unfoldable pub ended : Lent → Heads → Dispatched
unfolding listed
ended c hs =
    record {
      answer = record { number = done; address = 0; turns = 0; head = listed most_heads (λ j. cond (ltb j c.count) (hs j).answer no_answer) };
      states = joined c.count (λ j. (hs j).state);
      log = joined c.count (λ j. (hs j).log) ++ drop (share c * c.count) c.log;
    }

-- the turns where what is lent is accepted, from the lowest head on
unfoldable pub dispatched_by : Verdict → Lent → ℕ → ℕ → Dispatched
unfolding ended turns_from turned head_of
dispatched_by accepted c q turns = ended c (turns_from (turned c.rom c.table q) c.count turns 0 (head_of c)).heads
dispatched_by (refused_as k p) c q turns = refused c k p

-- the call: its turns have q steps each
unfoldable pub dispatch_of : Lent → ℕ → ℕ → Dispatched
unfolding dispatched_by call_verdict
dispatch_of c q turns = dispatched_by (call_verdict c q) c q turns

-- the equation of a call
pub record Call (w : Dispatched) (r : HeadsAnswer) (s g : List ℕ) : Type 0 where
  pub answer : r ≡ w.answer
  pub states : s ≡ w.states
  pub log : g ≡ w.log
