-- What the code keeps of an order's marks, and what `marks::read` ensures. Assumes nothing.
use Rattle.std.specs.Prelude.{ℕ, ◌≡◌, List, take}
use Rattle.io.specs.Counts.{IsPrefixLen}
use Rattle.marks.specs.declared.Order.{Order}
use Rattle.marks.specs.Order.{budget_said, marks_said, is_readable}

-- how many marks are kept: one more than there may be farms, so that too many stay too many
abbrev pub room : ℕ
room = 65

-- an order r with the marks that are kept
pub record Says (order : List ℕ) (r : Order) (kept : List ℕ) : Type 0 where
  pub budget : r.budget ≡ budget_said order
  pub readable : r.readable ≡ is_readable order
  pub counts : IsPrefixLen r.count kept
  pub marks : take r.count kept ≡ take room (marks_said order)
