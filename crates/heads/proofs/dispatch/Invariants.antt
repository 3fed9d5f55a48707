use Prim.Native.Nat.{◌+◌, ◌*◌}
use mathlib.Core.Path.{◌≡◌}
use Rattle.invariant.specs.Sound.{Bytes}
use Rattle.verdicts.specs.Verdicts.{accepted}
use Rattle.heads.specs.Call.{call_verdict}
use Rattle.heads.proofs.Round.{Round}
use Rattle.heads.proofs.Testing.{lent}
use Rattle.heads.proofs.Begun.{tabled_by}
use Rattle.heads.proofs.dispatch.Given as goal

abbrev pub invariant-loop-look : goal.invariant-loop-look
invariant-loop-look l =
    let c = lent l.heads l.rom l.table l.initial.states l.traces l.lengths l.initial.log l.starts in
    (ok : call_verdict c l.q ≡ accepted) × ((bytes : Bytes l.rom) × Round c l.q l.turns (tabled_by c l.q ok) bytes l.states l.log l.answer l.due l.left l.look l.i)

abbrev pub decreases-loop-look : goal.decreases-loop-look
decreases-loop-look l = 9 * l.left + l.look
