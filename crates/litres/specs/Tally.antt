-- How the code counts: one litre after another is added to its line. A helper; `tallied_all` (proofs/Counting.antt) says that it comes to the lines of document
-- 02, No. 6. Assumes nothing.
use Rattle.std.specs.Prelude.{ℕ, zero, suc, Bool, true, false, List, [], ◌∷◌, get_or, set, replicate}
use Rattle.litres.specs.Farms.{most_farms, farm_of}

pub record Tally : Type 0 where
  pub unplaced : ℕ
  pub farm : List ℕ

-- the largest number of 64 bits
abbrev pub most_counted : ℕ
most_counted = 18446744073709551615

-- before the first litre
abbrev pub none_yet : Tally
none_yet = record { unplaced = 0; farm = replicate most_farms 0 }

-- a litre more in line k, where there is one
abbrev pub added_to : Bool → ℕ → Tally → Tally
added_to false k t = t
added_to true zero t = record { unplaced = suc t.unplaced; farm = t.farm }
added_to true (suc i) t = record { unplaced = t.unplaced; farm = set t.farm i (suc (get_or t.farm i 0)) }

-- litres by their clocks, each added to its farm's line
unfoldable pub tallied_by : List ℕ → List ℕ → Tally → Tally
unfolding farm_of
tallied_by marks [] t = t
tallied_by marks (c ∷ cs) t = tallied_by marks cs (added_to true (farm_of marks c) t)
