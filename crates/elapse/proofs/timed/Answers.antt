use Rattle.chip.specs.State.{at}
use Rattle.elapse.proofs.Elapsing.{passed_early, passed_still}
use Rattle.elapse.proofs.Made.{basic_early, basic_still}
use Rattle.elapse.proofs.timed.Goals as goal

pub returns-then-stays : goal.returns-then-stays
returns-then-stays c e d w k i t v size =
    let a = c.args in
    basic_still a.n a.mem.now d t
    (passed_still v size a.was e a.n (at a.mem.now d) (basic_early t c.requires.basic_lt_last_count) (c.stays.ensures c.if-stays.true e d w k i t))

pub returns : goal.returns
returns c e d w k i t v size =
    let a = c.args in
    passed_early v size (at a.mem.now d) a.was e a.n c.clocks_on-k.result _ (c.clocks_on-k.ensures e d w k i t) (basic_early t c.requires.basic_lt_last_count) c.requires.n_lt_most_clocks
