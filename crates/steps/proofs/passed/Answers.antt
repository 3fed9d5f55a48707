use Rattle.steps.proofs.Idle.{quiet_as, ranged_as, passed_as}
use Rattle.steps.proofs.passed.Goals as goal

pub returns : goal.returns
returns c =
    let a = c.args in
    passed_as a.mem.now a.c a.n c.clocks.result c.timers_in.result c.pass_quiet-t.result c.clocks.ensures.0 c.timers_in.ensures.0 c.pass_quiet-t.ensures c.put_timers-basic.ensures.0 c.put_timers-basic.ensures.1 c.fallen.ensures

pub put_timers-basic-requires : goal.put_timers-basic-requires
put_timers-basic-requires c = ranged_as _ c.timers_in.ensures.1 (quiet_as _ _ _ _ c.clocks.ensures.0 c.timers_in.ensures.0 c.requires.c_value) c.pass_quiet-t.ensures
