use Rattle.chip.specs.State.{at}
use Rattle.steps.proofs.Idle.{calm_never, calm_some}
use Rattle.steps.proofs.calm.Goals as goal

pub returns-then-r-eq0 : goal.returns-then-r-eq0
returns-then-r-eq0 c =
    let a = c.args in
    calm_never (at a.mem.now a.c) c.rate-r.ensures.0 c.if-r-eq0.true

pub returns : goal.returns
returns c =
    let a = c.args in
    calm_some (at a.mem.now a.c) c.rate-r.ensures.0 c.if-r-eq0.false c.timers_in.ensures.0 c.quiet_cycles.ensures.0
