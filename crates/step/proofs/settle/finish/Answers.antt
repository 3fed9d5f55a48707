-- `step::settle::finish` meets its contract: the clock that would pass its last value, and the machine that the rules and what follows them leave.
-- Assumes nothing.
use mathlib.Core.Path.{refl}
use mathlib.Core.Bool.{cond}
use lib.ListN.{length}
use Rattle.chip.specs.Ports.{latched_of}
use Rattle.chip.specs.State.{at}
use Rattle.fetch.specs.Fetch.{code_at, size_of}
use Rattle.step.specs.Step.{ruled_of}
use Rattle.elapse.proofs.Elapsing.{elapsed_as, few_cycles}
use Rattle.step.proofs.Settling.{told, too_late, in_time, on_machine}
use Rattle.step.proofs.settle.finish.Goals as goal

pub returns-then-d-t : goal.returns-then-d-t
returns-then-d-t c k i =
    let a = c.args in
    told (too_late (code_at a.origin a.code.now 0) (size_of a.origin (length a.code.now)) (latched_of (cond a.kept a.saved.now a.mem.now)) (at a.mem.now k) a.e a.d a.t (length a.log.now) c.if-d-t.true)
    (record { answer = refl; mem = c.put_back.ensures; log = refl })

pub returns : goal.returns
returns c k i =
    let a = c.args in
    let v = code_at a.origin a.code.now 0 in
    let n = size_of a.origin (length a.code.now) in
    let was = latched_of (cond a.kept a.saved.now a.mem.now) in
    let m = at a.mem.now k in
    told (in_time v n was m a.e a.d a.t (length a.log.now) c.if-d-t.false)
    (on_machine (length a.log.now) was (elapsed_as v n m a.e a.t (ruled_of m a.e a.d a.t) i c.clocks-n.ensures.0) c.committed.ensures)

pub committed-requires-clause-n_lt_most_clocks : goal.committed-requires-clause-n_lt_most_clocks
committed-requires-clause-n_lt_most_clocks c = few_cycles c.args.mem.now c.args.was c.args.t c.requires.t_lt_most_cycles c.clocks-n.ensures.0
