-- `elapse::clocks_on` meets its contract: the phase alone moves, or the timers are read, cleared, passed and stored.
-- Assumes nothing.
use Rattle.elapse.specs.Elapsed.{strikes}
use Rattle.elapse.proofs.Elapsing.{came_still}
use Rattle.elapse.proofs.Made.{timed_as, came_on, came_reset, ranged_as, ranged_by}
use Rattle.elapse.proofs.clocks_on.Goals as goal

pub returns-then-stays : goal.returns-then-stays
returns-then-stays c e d w k i t =
    let a = c.args in
    came_still a.was e a.n a.mem.now d a.basic t c.if-basic-lt-LAST_COUNT.true (c.stays.ensures c.if-stays.true e d w k i t)

pub returns-in-On : goal.returns-in-On
unfolding strikes
returns-in-On c e d w k i t =
    let a = c.args in
    came_on a.was e a.mem.now d a.n
    (timed_as a.was e a.mem.now d a.is a.basic i t (c.strikes-restart.ensures e w k) (c.uncounts-clear.ensures e w k) c.timers_in.ensures.0 c.cleared-t.ensures)
    c.pass-p.ensures c.in-On.is c.come.ensures

pub returns-in-Reset : goal.returns-in-Reset
unfolding strikes
returns-in-Reset c e d w k i t =
    let a = c.args in
    came_reset a.was e a.mem.now d a.n
    (timed_as a.was e a.mem.now d a.is a.basic i t (c.strikes-restart.ensures e w k) (c.uncounts-clear.ensures e w k) c.timers_in.ensures.0 c.cleared-t.ensures)
    c.pass-p.ensures c.in-Reset.is c.come-in-Reset.ensures

pub pass-p-requires-clause-ranged : goal.pass-p-requires-clause-ranged
pass-p-requires-clause-ranged c = ranged_as _ _ c.timers_in.ensures.1 c.cleared-t.ensures

pub come-requires : goal.come-requires
come-requires c = ranged_by c.args.n (ranged_as _ _ c.timers_in.ensures.1 c.cleared-t.ensures) c.pass-p.ensures c.in-On.is

pub come-requires-in-Reset : goal.come-requires-in-Reset
come-requires-in-Reset c = ranged_by c.args.n (ranged_as _ _ c.timers_in.ensures.1 c.cleared-t.ensures) c.pass-p.ensures c.in-Reset.is
