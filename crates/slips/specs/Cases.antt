-- Worked slips: document 02, No. 6, with the last line of document 01's program. Assumes nothing.
use Rattle.std.specs.Prelude.{ℕ, ◌≡◌, refl, List, [], ◌∷◌, ◌++◌, replicate}
use Rattle.numbers.specs.Numbers.{litres_refusal}
use Rattle.calls.specs.Calls.{answered}
use Rattle.litres.specs.declared.Lines.{Lines}
use Rattle.litres.specs.Lines.{no_lines}
use Rattle.decimals.specs.Lines.{places_of, decimal_of, line_of}
use Rattle.printing.specs.Printed.{ending_line}
use Rattle.playback.specs.declared.Ending.{Ending}
use Rattle.slips.specs.Slip.{farm_lines, slip_of}

-- a round that an undefined code stops
abbrev stopped : Ending
stopped = record { answer = answered 9 2050 258 12; clock = 2050; pc = 258 }

-- three litres before the first farm, twelve of the first, none of the second
abbrev collected : Lines
collected = record { number = 0; unplaced = 3; farm = 12 ∷ (0 ∷ replicate 62 0) }

two_farms : slip_of collected (100 ∷ (250 ∷ [])) stopped ≡
    -- unplaced 3
    (117 ∷ 110 ∷ 112 ∷ 108 ∷ 97 ∷ 99 ∷ 101 ∷ 100 ∷ 32 ∷ 51 ∷ 10 ∷ []) ++
    -- 1 100 12
    (49 ∷ 32 ∷ 49 ∷ 48 ∷ 48 ∷ 32 ∷ 49 ∷ 50 ∷ 10 ∷ []) ++
    -- 2 250 0
    (50 ∷ 32 ∷ 50 ∷ 53 ∷ 48 ∷ 32 ∷ 48 ∷ 10 ∷ []) ++
    -- 9 2050 258 2050 258
    (57 ∷ 32 ∷ 50 ∷ 48 ∷ 53 ∷ 48 ∷ 32 ∷ 50 ∷ 53 ∷ 56 ∷ 32 ∷ 50 ∷ 48 ∷ 53 ∷ 48 ∷ 32 ∷ 50 ∷ 53 ∷ 56 ∷ 10 ∷ [])
unfolding slip_of farm_lines ending_line line_of decimal_of places_of
two_farms = refl

-- marks that are refused: 16 alone, however the round ended
refused : (marks : List ℕ) (e : Ending) → slip_of (no_lines litres_refusal) marks e ≡ 49 ∷ 54 ∷ 10 ∷ []
unfolding slip_of line_of decimal_of places_of
refused marks e = refl
