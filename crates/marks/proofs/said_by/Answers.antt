-- `said_by`: a line in one piece.
use Rattle.marks.proofs.Passing.{said_whole}
use Rattle.marks.proofs.said_by.Goals as goal

pub returns : goal.returns
returns c = simp (c.said.ensures, c.absorb.ensures, c.start.ensures) (said_whole _)
