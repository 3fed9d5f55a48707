-- What the proof of `billing::bill` cites: of too many marks those that are kept are too many still, so that the slip is the same. And a law for the program, which
-- reads a byte past the longest order and no more. Assumes nothing.
use Prim.Native.Nat.{ℕ, ◌+◌, ◌<◌}
use native.Mathlib.Omega.{arith}
use mathlib.Core.Path.{◌≡◌, refl, sym, ◌∙◌, ap}
use mathlib.Core.Bool.{Bool, true, false}
use mathlib.Core.List.{List}
use lib.Dec.{leb}
use lib.ListN.{length, take}
use lib.Seq.{take_all, length-take-le}
use borrow.Author.Tests.{leb-true, leb-false, lt-leb}
use Rattle.std.specs.Prelude.{Option}
use Rattle.litres.specs.Farms.{most_farms, are_marks}
use Rattle.litres.specs.Lines.{lines_of}
use Rattle.text.specs.Budget.{steps_of}
use Rattle.marks.specs.Order.{budget_said, marks_said, longest_order, is_readable}
use Rattle.marks.specs.Lines.{room}
use Rattle.slips.specs.Slip.{slip_of, collected_of, slip_text}
use Rattle.billing.specs.Bill.{unread_text, bill_of}

-- too many marks are none, and so are as many of them as are kept
too_many : (ms : List ℕ) → most_farms < length ms → are_marks ms ≡ false
unfolding are_marks
too_many ms h = simp (lt-leb (length ms) most_farms h)

still_too_many : (ms : List ℕ) → most_farms < length ms → are_marks (take room ms) ≡ false
still_too_many ms h = too_many (take room ms) (omega (arith, length-take-le room ms (omega arith)))

kept_by : (ms : List ℕ) (t : Bool) → leb (length ms) most_farms ≡ t → are_marks (take room ms) ≡ are_marks ms
kept_by ms true e = ap are_marks (take_all room ms (omega (arith, leb-true (length ms) most_farms e)))
kept_by ms false e = still_too_many ms (leb-false _ _ e) ∙ sym (too_many ms (leb-false _ _ e))

pub marks_kept : (ms : List ℕ) → are_marks (take room ms) ≡ are_marks ms
marks_kept ms = kept_by ms (leb (length ms) most_farms) refl

-- so the slip is the same
module _ (rom trace : List ℕ) (budget : ℕ) (ms : List ℕ) where
  slip_by : (t : Bool) → leb (length ms) most_farms ≡ t → slip_text rom trace budget (take room ms) ≡ slip_text rom trace budget ms
  unfolding slip_text collected_of lines_of slip_of
  slip_by true e = ap (slip_text rom trace budget) (take_all room ms (omega (arith, leb-true (length ms) most_farms e)))
  slip_by false e = simp (still_too_many ms (leb-false _ _ e), too_many ms (leb-false _ _ e))

  pub slip_kept : slip_text rom trace budget (take room ms) ≡ slip_text rom trace budget ms
  slip_kept = slip_by (leb (length ms) most_farms) refl

module _ (rom trace order : List ℕ) where
  -- an order that can't be read
  pub billed_unread : is_readable order ≡ false → unread_text ≡ bill_of rom trace order
  unfolding bill_of
  billed_unread e = simp e

  -- one that is read, with the marks that are kept
  pub billed : is_readable order ≡ true → (b : Option ℕ) → b ≡ budget_said order → (n : ℕ) → n ≡ steps_of b → (kept : List ℕ) → kept ≡ take room (marks_said order) →
      slip_text rom trace n kept ≡ bill_of rom trace order
  unfolding bill_of
  billed e b f n g kept h = simp e (rw (h, g, f) (slip_kept rom trace (steps_of (budget_said order)) (marks_said order)))

-- an order that is too long has the same bill when it is cut behind the byte that makes it so
too_long : (order : List ℕ) → longest_order < length order → is_readable order ≡ false
unfolding is_readable
too_long order h = simp (lt-leb (length order) longest_order h)

pub bill_cut : (rom trace order : List ℕ) → longest_order < length order → bill_of rom trace (take (longest_order + 1) order) ≡ bill_of rom trace order
unfolding bill_of
bill_cut rom trace order h =
    let cut : longest_order < length (take (longest_order + 1) order) = omega (arith, length-take-le (longest_order + 1) order (omega arith)) in
    simp (too_long (take (longest_order + 1) order) cut, too_long order h)
