-- What the writer of a slip asks of its lines: litres of 32 bits, and no more farms than lines. A helper: `fits` (proofs/Slips.antt) says that a round's lines
-- are such. Assumes nothing.
use Rattle.std.specs.Prelude.{ℕ, ◌<◌, ◌≤◌, ◌≡◌, List, length, get_or}
use Rattle.numbers.specs.Numbers.{done}
use Rattle.litres.specs.declared.Lines.{Lines}
use Rattle.litres.specs.Farms.{most_farms}

abbrev pub Short : ℕ → Type 0
Short n = n < 4294967296

abbrev pub AllShort : List ℕ → Type 0
AllShort ns = (i : ℕ) → Short (get_or ns i 0)

pub record Fit (l : Lines) (marks : List ℕ) : Type 0 where
  pub unplaced : Short l.unplaced
  pub farms : AllShort l.farm
  pub long : length l.farm ≡ most_farms
  pub few : l.number ≡ done → length marks ≤ most_farms
