-- `arrivals::advance` meets its contract: a record that is due is there, and the laws say what it leaves.
-- Assumes nothing.
use native.Mathlib.Omega.{arith}
use mathlib.Core.Path.{◌∙◌, sym}
use Rattle.chip.specs.State.{at}
use Rattle.arrivals.proofs.Arriving.{never_none, short, left_machine, left_stands, left_past, left_inside}
use Rattle.arrivals.proofs.advance.Goals as goal

pub returns-in_default : goal.returns-in_default
returns-in_default c = let a = c.args in
    absurd (never_none a.v a.n a.trace.now (at a.mem.now a.c) a.due c.requires.cursor_value (omega arith) c.requires.due_le_clock (sym c.next_record.ensures ∙ c.in_default.is))

pub overflow_cast-k : goal.overflow_cast-k
overflow_cast-k c = let a = c.args in
    omega (arith, short a.v a.n a.trace.now (at a.mem.now a.c) a.due c.requires.cursor_value _ _ (sym c.next_record.ensures ∙ c.in-Some.is))

pub apply-d-requires : goal.apply-d-requires
apply-d-requires c = let a = c.args in
    omega (arith, short a.v a.n a.trace.now (at a.mem.now a.c) a.due c.requires.cursor_value _ _ (sym c.next_record.ensures ∙ c.in-Some.is))

pub returns : goal.returns
returns c = let a = c.args in
    let m = at a.mem.now a.c in
    let h = c.requires.cursor_value in
    let e = sym c.next_record.ensures ∙ c.in-Some.is in
    let g = c.apply-d.ensures in
    record {
      machine = left_machine a.v a.n a.trace.now m a.due h _ _ e _ _ g;
      stands = left_stands a.v a.n a.trace.now m a.due h _ _ e _ _ g _ c.due_next-next.ensures;
      past = left_past a.v a.n a.trace.now m a.due h _ _ e _ _ g;
      inside = left_inside a.v a.n a.trace.now m a.due h _ _ e _ _ g;
    }
