-- i calls are made and recorded, and those that are left lead to where the whole list leads. The state that was given is of bytes, as known at entry.
use Rattle.std.proofs.Common.{drop}
use Rattle.invariant.specs.Sound.{Bytes}
use Rattle.budgets.specs.Claim.{calls_over}
use Rattle.budgets.proofs.Recording.{Far}
use Rattle.budgets.proofs.table_runs.Given as goal

abbrev pub invariant-loop-i : goal.invariant-loop-i
invariant-loop-i l = record {
  far : Far (calls_over l.rom l.table l.trace l.fn.state l.fn.log l.start l.budgets)
      (calls_over l.rom l.table l.trace l.state l.log l.end (drop l.i l.budgets)) l.fn.answers l.answers l.i;
  bytes : Bytes l.fn.state;
}
