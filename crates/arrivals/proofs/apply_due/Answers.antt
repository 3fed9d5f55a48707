-- `arrivals::apply_due` meets its contract. The invariant: the record at the cursor is due at `due`, and what is left to apply leads to
-- the same machine as at the start. The measure is what is left of the trace.
-- Assumes nothing.
use Prim.Native.Nat.{◌≤◌, ◌<◌}
use native.Mathlib.Omega.{arith}
use mathlib.Core.Path.{◌∙◌, refl, sym, ap}
use borrow.Author.Rules.{rules}
use Rattle.chip.specs.declared.Machine.{Machine}
use Rattle.chip.specs.State.{at}
use Rattle.events.specs.Records.{records_of}
use Rattle.arrivals.proofs.Arriving.{records_advance, records_none}
use Rattle.arrivals.proofs.apply_due.Goals as goal

pub loop-due-init : goal.loop-due-init
loop-due-init c = (search rules, (search rules, refl))

pub loop-due-smaller : goal.loop-due-smaller
loop-due-smaller c = omega (arith, c.advance-r.ensures.past, c.advance-r.ensures.inside)

pub loop-due-preserved : goal.loop-due-preserved
loop-due-preserved c =
    let a = c.args in
    let l = c.loop-due in
    let g = c.advance-r.ensures in
    let k : l.due ≤ l.c.clock = omega (arith, c.loop-due-test.true, c.wide.ensures.0) in
    let b : l.c.clock < 4294967296 = omega (arith, c.wide.ensures.0, c.wide.ensures.1) in (
      search rules,
      (
        g.stands,
        ap (λ (x : Machine). records_of a.v a.n a.trace.now x) g.machine ∙
            records_advance a.v a.n a.trace.now (at l.mem l.c) l.due l.invariant.1.0 b k ∙
            l.invariant.1.1,
      ),
    )

pub returns : goal.returns
returns c =
    let a = c.args in
    let l = c.loop-due in
    let k : l.c.clock < l.due = omega (arith, c.loop-due-test.false, c.wide.ensures.0) in
    record {
      machine = sym (records_none a.v a.n a.trace.now (at l.mem l.c) l.due l.invariant.1.0 k) ∙ l.invariant.1.1;
      stands = l.invariant.1.0;
    }
