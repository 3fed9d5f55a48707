-- `budget::absorb`: what is seen so far goes on to what is seen of the whole piece.
use Rattle.std.proofs.Common.{◌≡◌, drop}
use Rattle.text.specs.Pieces.{absorbed}
use Rattle.text.proofs.budget.absorb.Given as goal

abbrev pub invariant-loop-b : goal.invariant-loop-b
invariant-loop-b l = absorbed l.seen (drop l.b-index l.piece) ≡ absorbed l.initial.seen l.piece
