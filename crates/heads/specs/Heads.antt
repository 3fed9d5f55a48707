-- Document 02, No. 5: the heads of a lorry and their turns. "A turn is a table-driven run of one head with budget q, and a call gives a stated number of turns,
-- fewer only once every head has stopped. Each call's turns go round in rising number from the lowest head, skipping heads that have stopped in it."
-- Assumes nothing.
use Rattle.std.specs.Prelude.{ℕ, zero, suc, ◌+◌, ◌*◌, Bool, cond, List, [], ◌∷◌, eqb, ltb, length, take, get_or}
use Rattle.numbers.specs.Numbers.{done}
use Rattle.parts.specs.Parts.{together, part_of, share_of}
use Rattle.image.specs.Image.{image_size}
use Rattle.calls.specs.declared.Answer.{Answer}
use Rattle.calls.specs.Calls.{Called, answered, table_call}

-- what a call is lent: "1 to 8 states in one buffer, one ROM and table, the traces one behind another with their lengths given, an equal part of the log
-- buffer each (a remainder unused) with its log start in that part given"
pub record Lent : Type 0 where
  pub count : ℕ
  pub rom : List ℕ
  pub table : List ℕ
  pub states : List ℕ
  pub traces : List ℕ
  pub lengths : List ℕ
  pub log : List ℕ
  pub starts : List ℕ

-- a head: its own bytes, and its answer over all its turns
pub record Head : Type 0 where
  pub state : List ℕ
  pub trace : List ℕ
  pub log : List ℕ
  pub answer : Answer

-- head i's own bytes: its state, its trace behind those of the heads before it, and its part of w bytes of the log
abbrev pub state_at : ℕ → List ℕ → List ℕ
state_at i states = part_of (image_size * i) image_size states

abbrev pub trace_at : ℕ → List ℕ → List ℕ → List ℕ
trace_at i lengths traces = part_of (together (take i lengths)) (get_or lengths i 0) traces

abbrev pub log_at : ℕ → ℕ → List ℕ → List ℕ
log_at i w log = part_of (w * i) w log

-- how long each part of the log is
abbrev pub share : Lent → ℕ
share c = share_of (length c.log) c.count

-- head i before its first turn: "without one done, 0 steps and the start as end"
unfoldable pub head_of : Lent → ℕ → Head
head_of c i =
    record {
      state = state_at i c.states;
      trace = trace_at i c.lengths c.traces;
      log = log_at i (share c) c.log;
      answer = answered done 0 0 (get_or c.starts i 0);
    }

-- an answer over the turns before, a, and the turn's own, b: number and address of the last turn, the sum of the steps, the last end
abbrev pub over_both : Answer → Answer → Answer
over_both a b = answered b.number (a.steps + b.steps) b.address b.log_end

-- "A turn is a table-driven run of one head with budget q"
abbrev pub run_of : List ℕ → List ℕ → ℕ → Head → Called
run_of rom table q h = table_call rom table h.state h.trace h.log h.answer.log_end q

unfoldable pub turned : List ℕ → List ℕ → ℕ → Head → Head
turned rom table q h =
    let w = run_of rom table q h in
    record { state = w.state; trace = h.trace; log = w.log; answer = over_both h.answer w.answer }

-- a head that hasn't stopped: it had no turn, or its last one spent q
abbrev pub goes : Head → Bool
goes h = eqb h.answer.number done

-- the heads by their numbers, and these after a turn f of head i
abbrev pub Heads : Type 0
Heads = ℕ → Head

unfoldable pub turn_of : (Head → Head) → ℕ → Heads → Heads
turn_of f i hs = λ j. cond (eqb j i) (f (hs j)) (hs j)

-- "go round in rising number": the head after head i of n, the lowest after the last
abbrev pub after : ℕ → ℕ → ℕ
after n i = cond (ltb (i + 1) n) (i + 1) 0

-- whose turn it is: the first that hasn't stopped of k heads from head i on; none where all of them have
pub data Next : Type 0 where
  none : Next
  head : ℕ → Next

unfoldable pub next_from : ℕ → Heads → ℕ → ℕ → Next
next_from n hs i zero = none
next_from n hs i (suc k) = cond (goes (hs i)) (head i) (next_from n hs (after n i) k)

-- the heads after the turns of a call, and the numbers of those that had them, in order
pub record Turns : Type 0 where
  pub heads : Heads
  pub order : List ℕ

abbrev pub first : ℕ → Turns → Turns
first i r = record { heads = r.heads; order = i ∷ r.order }

-- k turns f of n heads, head i being the first that may have one
unfoldable pub turns_from : (Head → Head) → ℕ → ℕ → ℕ → Heads → Turns
unfolding turn_of next_from
turns_from f n zero i hs = record { heads = hs; order = [] }
turns_from f n (suc k) i hs =
    elim (next_from n hs i n) [
      | none ↦ record { heads = hs; order = [] }
      | head j ↦ first j (turns_from f n k (after n j) (turn_of f j hs))
    ]
