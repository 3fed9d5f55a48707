use Rattle.heads.proofs.Testing.{lent, Far}
use Rattle.heads.proofs.tests.tested.Given as goal

abbrev pub invariant-loop-i : goal.invariant-loop-i
invariant-loop-i l =
    Far (lent l.heads l.rom l.table l.states l.traces l.lengths l.log l.starts) l.i l.due l.answer
