-- Document 02, No. 6: "a list of farm marks (clock where each farm begins, strictly rising, at most 64)"; "counts rising changes of P4 bit 0, one litre each, P4
-- taken as 0 before the log. A litre at a mark's own clock belongs to that farm; litres before the first mark go to a line "unplaced"."
-- Assumes nothing.
use Rattle.std.specs.Prelude.{ℕ, suc, ◌%◌, Bool, true, cond, ◌&&◌, List, [], ◌∷◌, eqb, leb, ltb, length}
use Rattle.litres.specs.declared.log.Change.{Change}
use Rattle.litres.specs.Log.{changes_of}

abbrev pub most_farms : ℕ
most_farms = 64

-- "strictly rising": each mark behind the one before it
unfoldable pub rising_after : ℕ → List ℕ → Bool
rising_after m [] = true
rising_after m (n ∷ ns) = ltb m n && rising_after n ns

unfoldable pub rising : List ℕ → Bool
unfolding rising_after
rising [] = true
rising (m ∷ ms) = rising_after m ms

unfoldable pub are_marks : List ℕ → Bool
unfolding rising
are_marks marks = leb (length marks) most_farms && rising marks

-- the port whose bit 0 is counted, and that bit of a nibble
abbrev pub meter_port : ℕ
meter_port = 4

abbrev pub meter_bit : ℕ → ℕ
meter_bit nibble = nibble % 2

-- the bit after a change, where it was `was`: a change of another port leaves it
abbrev pub bit_after : ℕ → Change → ℕ
bit_after was c = cond (eqb c.port meter_port) (meter_bit c.nibble) was

-- "rising changes": from 0 to 1
abbrev pub is_litre : ℕ → Change → Bool
is_litre was c = eqb was 0 && eqb (bit_after was c) 1

-- the litres of a list of changes, each by its clock
unfoldable pub litres_from : ℕ → List Change → List ℕ
litres_from was [] = []
litres_from was (c ∷ cs) =
    cond (is_litre was c) (c.clock ∷ litres_from (bit_after was c) cs) (litres_from (bit_after was c) cs)

-- all litres of a log: "P4 taken as 0 before the log"
unfoldable pub litres_in : List ℕ → List ℕ
unfolding litres_from changes_of
litres_in log = litres_from 0 (changes_of log)

-- the farm of a clock: how many of the marks, one after another, it has reached. The first farm is 1; 0 is "unplaced"
unfoldable pub farm_of : List ℕ → ℕ → ℕ
farm_of [] clock = 0
farm_of (m ∷ ms) clock = cond (leb m clock) (suc (farm_of ms clock)) 0

-- a line: how many of the litres are of farm k
unfoldable pub line_of : List ℕ → List ℕ → ℕ → ℕ
unfolding farm_of
line_of marks [] k = 0
line_of marks (t ∷ ts) k = cond (eqb (farm_of marks t) k) (suc (line_of marks ts k)) (line_of marks ts k)
