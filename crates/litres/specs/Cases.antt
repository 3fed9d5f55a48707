-- Worked cases of document 02, No. 6, computed from the definitions. Assumes nothing.
use Rattle.std.specs.Prelude.{ℕ, zero, suc, ◌≡◌, refl, List, [], ◌∷◌, ◌++◌, take, drop, replicate}
use Rattle.numbers.specs.Numbers.{done, litres_refusal}
use Rattle.litres.specs.Log.{changes_in, changes_of, is_sound, sound_from, is_log}
use Rattle.litres.specs.Farms.{rising, rising_after, are_marks, litres_from, litres_in, farm_of, line_of}
use Rattle.litres.specs.Lines.{lines_from, counted_of, no_lines, lines_of}

-- a record with a clock below 256
abbrev change : ℕ → ℕ → ℕ → List ℕ
change clock port nibble = clock ∷ 0 ∷ 0 ∷ 0 ∷ port ∷ nibble ∷ []

-- P4 goes to 1 at 10, to 3 at 12, to 2 at 14, to 15 at 20, to 0 at 24, to 1 at 24 and to 7 at 30; at 20 and 24 P5 and P6 change too
abbrev round : List ℕ
round =
    change 10 4 1 ++ (change 12 4 3 ++ (change 14 4 2 ++ (change 20 4 15 ++ (change 20 5 1 ++ (change 24 4 0 ++ (change 24 4 1 ++ (change 24 6 1 ++ change 30 4 7)))))))

-- bit 0 rises three times: from 0 before the log, from 2 to 15, from 0 to 1. A change of the other bits, a fall and another port are no litres
three_litres : litres_in round ≡ 10 ∷ 20 ∷ 24 ∷ []
unfolding litres_in litres_from changes_of changes_in
three_litres = refl

-- the farm of a clock: before the first mark, at it, before and at the second, and behind the last
abbrev farms : List ℕ
farms = 11 ∷ 20 ∷ 30 ∷ []

by_mark : (farm_of farms 10 ≡ 0) × (farm_of farms 11 ≡ 1) × (farm_of farms 19 ≡ 1) × (farm_of farms 20 ≡ 2) × (farm_of farms 4294967295 ≡ 3)
unfolding farm_of
by_mark = (refl, refl, refl, refl, refl)

-- the call: one litre unplaced, none for the first farm, two for the second, none for the third
placed : lines_of round farms ≡ record { number = done; unplaced = 1; farm = 0 ∷ 2 ∷ 0 ∷ replicate 61 0 }
unfolding lines_of are_marks rising rising_after is_log sound_from is_sound changes_of changes_in counted_of lines_from line_of farm_of litres_in litres_from
placed = refl

-- the second mark one later: the litre at 20 is the first farm's
moved : lines_of round (11 ∷ 21 ∷ 30 ∷ []) ≡ record { number = done; unplaced = 1; farm = 1 ∷ 1 ∷ 0 ∷ replicate 61 0 }
unfolding lines_of are_marks rising rising_after is_log sound_from is_sound changes_of changes_in counted_of lines_from line_of farm_of litres_in litres_from
moved = refl

-- no marks: all is unplaced; an empty log: nothing
unmarked : lines_of round [] ≡ record { number = done; unplaced = 3; farm = replicate 64 0 }
unfolding lines_of are_marks rising rising_after is_log sound_from is_sound changes_of changes_in counted_of lines_from line_of farm_of litres_in litres_from
unmarked = refl

empty : lines_of [] farms ≡ record { number = done; unplaced = 0; farm = replicate 64 0 }
unfolding lines_of are_marks rising rising_after is_log sound_from is_sound changes_of changes_in counted_of lines_from line_of farm_of litres_in litres_from
empty = refl

-- a log cut in two is not the sum of its halves: behind P4's second record at 24 the bit is 1, and the half that begins there has a litre at 30, where the whole has
-- none
cut : ((lines_of (take 42 round) []).unplaced ≡ 3) × ((lines_of (drop 42 round) []).unplaced ≡ 1)
unfolding lines_of are_marks rising rising_after is_log sound_from is_sound changes_of changes_in counted_of lines_from line_of farm_of litres_in litres_from
cut = (refl, refl)

-- equal clocks are good, as above; these are refused: a clock that falls, P1, a nibble of 16, and a record with a byte too few
falling : lines_of (change 10 4 1 ++ change 9 4 0) [] ≡ no_lines litres_refusal
unfolding lines_of are_marks rising rising_after is_log sound_from is_sound changes_of changes_in counted_of lines_from line_of farm_of litres_in litres_from
falling = refl

input_port : lines_of (change 10 1 1) [] ≡ no_lines litres_refusal
unfolding lines_of are_marks rising rising_after is_log sound_from is_sound changes_of changes_in counted_of lines_from line_of farm_of litres_in litres_from
input_port = refl

no_nibble : lines_of (change 10 4 16) [] ≡ no_lines litres_refusal
unfolding lines_of are_marks rising rising_after is_log sound_from is_sound changes_of changes_in counted_of lines_from line_of farm_of litres_in litres_from
no_nibble = refl

ragged : lines_of (take 11 round) [] ≡ no_lines litres_refusal
unfolding lines_of are_marks rising rising_after is_log sound_from is_sound changes_of changes_in counted_of lines_from line_of farm_of litres_in litres_from
ragged = refl

-- marks that are equal or fall, and one too many
equal_marks : lines_of round (11 ∷ 20 ∷ 20 ∷ []) ≡ no_lines litres_refusal
unfolding lines_of are_marks rising rising_after is_log sound_from is_sound changes_of changes_in counted_of lines_from line_of farm_of litres_in litres_from
equal_marks = refl

falling_marks : lines_of round (11 ∷ 20 ∷ 19 ∷ []) ≡ no_lines litres_refusal
unfolding lines_of are_marks rising rising_after is_log sound_from is_sound changes_of changes_in counted_of lines_from line_of farm_of litres_in litres_from
falling_marks = refl

-- n marks, one a cycle
abbrev marks_from : ℕ → ℕ → List ℕ
marks_from m zero = []
marks_from m (suc n) = m ∷ marks_from (suc m) n

sixty_four : (lines_of round (marks_from 0 64)).number ≡ done
unfolding lines_of are_marks rising rising_after is_log sound_from is_sound changes_of changes_in counted_of lines_from line_of farm_of litres_in litres_from
sixty_four = refl

sixty_five : lines_of round (marks_from 0 65) ≡ no_lines litres_refusal
unfolding lines_of are_marks rising rising_after is_log sound_from is_sound changes_of changes_in counted_of lines_from line_of farm_of litres_in litres_from
sixty_five = refl
