use borrow.Author.Tests.{eq-eqb, le-ltb, ne_eqb}
use Rattle.chip.specs.Memory.{write_of}
use Rattle.rights.proofs.Digits.{reach_at, writable_at}
use Rattle.chip.proofs.memory.write.Goals as goal

pub returns-then-writable-eq0 : goal.returns-then-writable-eq0
unfolding write_of
returns-then-writable-eq0 c =
    simp (eq-eqb _ _ (simp (c.writable.ensures, c.rights_at-k.ensures, writable_at) at c.if-writable-eq0.true), le-ltb _ _ c.if-a-lt-RAM.false)

pub returns-else-writable-eq0 : goal.returns-else-writable-eq0
unfolding write_of
returns-else-writable-eq0 c =
    simp
    (c.write_to-else-writable-eq0.ensures, c.reach.ensures.0, c.slot.ensures.0, ne_eqb _ _ (simp (c.writable.ensures, c.rights_at-k.ensures, writable_at) at c.if-writable-eq0.false), c.rights_at-k.ensures, reach_at, le-ltb _ _ c.if-a-lt-RAM.false)
