-- `keep`: a mark where no room is left, and where some is.
use native.Mathlib.Omega.{arith}
use Rattle.marks.proofs.Passing.{kept_full, kept_more}
use Rattle.marks.proofs.keep.Goals as goal

pub returns-then-count-eq-ROOM : goal.returns-then-count-eq-ROOM
returns-then-count-eq-ROOM c =
    (c.requires, kept_full c.args.marks.now c.args.count c.args.mark c.if-count-eq-ROOM.true c.told-marks)

pub returns : goal.returns
returns c =
    (omega (arith, c.if-count-eq-ROOM.false, c.requires), kept_more c.args.marks.now c.args.count c.args.mark (omega (arith, c.if-count-eq-ROOM.false, c.requires)) c.told-marks)
