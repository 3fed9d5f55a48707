use borrow.Author.Tests.{eq-eqb, le-ltb, ne_eqb}
use Rattle.chip.specs.Memory.{write_bit_of}
use Rattle.rights.proofs.Digits.{bits_at, writable_at}
use Rattle.chip.proofs.memory.write_bit.Goals as goal

pub returns-then-writable-t-eq0 : goal.returns-then-writable-t-eq0
unfolding write_bit_of
returns-then-writable-t-eq0 c =
    simp (eq-eqb _ _ (simp (c.bit_at.ensures, c.writable.ensures, c.rights_at-t.ensures, writable_at, bits_at) at c.if-writable-t-eq0.true), le-ltb _ _ c.if-a-lt-RAM.false)

pub returns-else-writable-t-eq0 : goal.returns-else-writable-t-eq0
unfolding write_bit_of
returns-else-writable-t-eq0 c =
    simp
    (c.write_to-else-writable-t-eq0.ensures, c.with_bit-else-writable-t-eq0.ensures, c.nib-else-writable-t-eq0.ensures, c.slot-i.ensures.0, ne_eqb _ _ (simp (c.bit_at.ensures, c.writable.ensures, c.rights_at-t.ensures, writable_at, bits_at) at c.if-writable-t-eq0.false), le-ltb _ _ c.if-a-lt-RAM.false)
