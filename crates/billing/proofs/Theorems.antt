-- What holds of a bill: it is 16 alone exactly where the order's marks can't be read or are no marks. Assumes nothing.
use Prim.Native.Nat.{ℕ}
use mathlib.Core.Path.{◌≡◌, refl}
use mathlib.Core.Bool.{Bool, true, false, cond, ◌&&◌}
use mathlib.Core.List.{List}
use Rattle.litres.specs.Farms.{are_marks}
use Rattle.decimals.specs.Lines.{places_of, decimal_of, line_of}
use Rattle.text.specs.Budget.{steps_of}
use Rattle.marks.specs.Order.{budget_said, marks_said, is_readable}
use Rattle.slips.specs.Slip.{slip_text}
use Rattle.slips.proofs.Theorems.{sixteen, refused_alone, alone_refused}
use Rattle.billing.specs.Bill.{unread_text, bill_of}

module _ (rom trace : List ℕ) (budget : ℕ) (marks : List ℕ) where
  refused_by : (r : Bool) → (r && are_marks marks) ≡ false → cond r (slip_text rom trace budget marks) unread_text ≡ sixteen
  unfolding line_of decimal_of places_of
  refused_by true h = refused_alone rom trace marks budget h
  refused_by false h = refl

  alone_by : (r : Bool) → cond r (slip_text rom trace budget marks) unread_text ≡ sixteen → (r && are_marks marks) ≡ false
  alone_by true h = alone_refused rom trace marks budget h
  alone_by false h = refl

pub refused_bill : (rom trace order : List ℕ) → (is_readable order && are_marks (marks_said order)) ≡ false → bill_of rom trace order ≡ sixteen
unfolding bill_of
refused_bill rom trace order h = refused_by rom trace (steps_of (budget_said order)) (marks_said order) (is_readable order) h

pub bill_refused : (rom trace order : List ℕ) → bill_of rom trace order ≡ sixteen → (is_readable order && are_marks (marks_said order)) ≡ false
unfolding bill_of
bill_refused rom trace order h = alone_by rom trace (steps_of (budget_said order)) (marks_said order) (is_readable order) h
