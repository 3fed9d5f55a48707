-- What the theorems of proofs/Theorems.antt speak of, which render document 02, No. 6: the sum of the lines, and what it means that a mark is moved past litres and
-- moves exactly these. Assumes nothing.
use Rattle.std.specs.Prelude.{ℕ, zero, suc, ◌+◌, ◌≤◌, ◌≡◌, Bool, cond, ◌&&◌, List, [], ◌∷◌, leb, ltb, get_or, set}
use Rattle.litres.specs.declared.Lines.{Lines}
use Rattle.litres.specs.Farms.{most_farms, line_of}

-- the sum of lines
abbrev pub sum_of : List ℕ → ℕ
sum_of [] = 0
sum_of (x ∷ xs) = x + sum_of xs

-- a clock from a mark on that is before where the mark is moved to
abbrev pub is_between : ℕ → ℕ → ℕ → Bool
is_between m n clock = leb m clock && ltb clock n

-- how many litres a mark passes that is moved from m to n
abbrev pub passed : ℕ → ℕ → List ℕ → ℕ
passed m n [] = 0
passed m n (t ∷ ts) = cond (is_between m n t) (suc (passed m n ts)) (passed m n ts)

-- what moving the mark at i from m to n does to the lines of the litres ts: of the farm that begins there, to the farm before go the litres that it passes, and
-- every other line stays
pub record MarkMoved (marks ts : List ℕ) (i m n : ℕ) : Type 0 where
  pub loses : line_of (set marks i n) ts (suc i) + passed m n ts ≡ line_of marks ts (suc i)
  pub gains : line_of (set marks i n) ts i ≡ line_of marks ts i + passed m n ts
  pub others : (k : ℕ) → (k ≡ i → ⊥) → (k ≡ suc i → ⊥) → line_of (set marks i n) ts k ≡ line_of marks ts k

-- a line of the call's answer: 0 is "unplaced"
abbrev pub line_in : Lines → ℕ → ℕ
line_in l zero = l.unplaced
line_in l (suc k) = get_or l.farm k 0

-- so of the call: a mark moved on, for which both lists of marks are taken, moves the litres that it passes from its farm's line to the line before, and no other
pub record LinesMoved (old new : Lines) (i p : ℕ) : Type 0 where
  pub loses : line_in new (suc i) + p ≡ line_in old (suc i)
  pub gains : line_in new i ≡ line_in old i + p
  pub others : (k : ℕ) → k ≤ most_farms → (k ≡ i → ⊥) → (k ≡ suc i → ⊥) → line_in new k ≡ line_in old k
