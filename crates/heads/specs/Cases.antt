-- Worked cases of document 02, No. 5: whose turns a call gives, and whose refusal it answers. The heads are toys: one stops in the turn that empties its trace.
-- Assumes nothing.
use Rattle.std.specs.Prelude.{ℕ, ◌+◌, ◌≡◌, refl, cond, List, [], ◌∷◌, eqb, length, drop, replicate, get_or}
use Rattle.numbers.specs.Numbers.{code_stop}
use Rattle.verdicts.specs.Verdicts.{accepted, refused_as}
use Rattle.calls.specs.Calls.{answered}
use Rattle.heads.specs.Heads.{Head, Heads, turn_of, next_from, turns_from}
use Rattle.heads.specs.Call.{no_answer, first_refusal}

-- the heads by how many turns each has in it, and a turn
abbrev toys : List ℕ → Heads
toys ks i = record { state = []; trace = replicate (get_or ks i 0) 0; log = []; answer = no_answer }

abbrev toy_turn : Head → Head
toy_turn h =
    let left = drop 1 h.trace in
    record { state = []; trace = left; log = []; answer = answered (cond (eqb (length left) 0) code_stop 0) (h.answer.steps + 1) 0 0 }

-- the order of k turns of n heads
abbrev order_of : ℕ → ℕ → List ℕ → List ℕ
order_of n k ks = (turns_from toy_turn n k 0 (toys ks)).order

-- three heads, none of which stops
goes_round : order_of 3 7 (9 ∷ 9 ∷ 9 ∷ []) ≡ 0 ∷ 1 ∷ 2 ∷ 0 ∷ 1 ∷ 2 ∷ 0 ∷ []
unfolding turns_from next_from turn_of
goes_round = refl

alone : order_of 1 3 (9 ∷ []) ≡ 0 ∷ 0 ∷ 0 ∷ []
unfolding turns_from next_from turn_of
alone = refl

no_turns : order_of 3 0 (9 ∷ 9 ∷ 9 ∷ []) ≡ []
unfolding turns_from next_from turn_of
no_turns = refl

-- one stops in its first turn, which it has had; the other goes on
first_stops : order_of 2 4 (1 ∷ 9 ∷ []) ≡ 0 ∷ 1 ∷ 1 ∷ 1 ∷ []
unfolding turns_from next_from turn_of
first_stops = refl

-- the middle one is passed over
middle_stops : order_of 3 6 (9 ∷ 1 ∷ 9 ∷ []) ≡ 0 ∷ 1 ∷ 2 ∷ 0 ∷ 2 ∷ 0 ∷ []
unfolding turns_from next_from turn_of
middle_stops = refl

-- all stop before the turns are given
all_stop : order_of 2 10 (1 ∷ 2 ∷ []) ≡ 0 ∷ 1 ∷ 1 ∷ []
unfolding turns_from next_from turn_of
all_stop = refl

-- 8 of head 0 comes before 4 of head 1; where head 0 is accepted, head 1's is told
lowest_first : first_refusal (λ i. cond (eqb i 0) (refused_as 8 0) (refused_as 4 640)) 0 2 ≡ refused_as 8 0
unfolding first_refusal
lowest_first = refl

second_told : first_refusal (λ i. cond (eqb i 0) accepted (refused_as 6 5)) 0 2 ≡ refused_as 6 5
unfolding first_refusal
second_told = refl
