use mathlib.Core.Path.{refl}
use native.Mathlib.Omega.{arith}
use Rattle.image.specs.Image.{fields}
use Rattle.image.proofs.Laws.{over_here, over_past}
use Rattle.image.proofs.field_fault.Goals as goal

pub returns-then-last-word_at : goal.returns-then-last-word_at
unfolding fields
returns-then-last-word_at c = over_here _ _ _ refl (omega (arith, c.if-last-word_at.true, c.word_at.ensures, c.saturating_sub-last.ensures))

pub returns-then-s-gt15 : goal.returns-then-s-gt15
unfolding fields
returns-then-s-gt15 c = over_past _ _ _ (omega (arith, c.if-last-word_at.false, c.word_at.ensures, c.saturating_sub-last.ensures)) _ (over_here _ _ _ refl (omega arith))

pub returns-then-s-gt3 : goal.returns-then-s-gt3
unfolding fields
returns-then-s-gt3 c = over_past _ _ _ (omega (arith, c.if-last-word_at.false, c.word_at.ensures, c.saturating_sub-last.ensures)) _ (over_past _ _ _ (omega arith) _ (over_here _ _ _ refl (omega arith)))

pub returns-then-s-gt2 : goal.returns-then-s-gt2
unfolding fields
returns-then-s-gt2 c = over_past _ _ _ (omega (arith, c.if-last-word_at.false, c.word_at.ensures, c.saturating_sub-last.ensures)) _ (over_past _ _ _ (omega arith) _ (over_past _ _ _ (omega arith) _ (over_here _ _ _ refl (omega arith))))

pub returns-then-s-gt3-2 : goal.returns-then-s-gt3-2
unfolding fields
returns-then-s-gt3-2 c = over_past _ _ _ (omega (arith, c.if-last-word_at.false, c.word_at.ensures, c.saturating_sub-last.ensures)) _ (over_past _ _ _ (omega arith) _ (over_past _ _ _ (omega arith) _ (over_past _ _ _ (omega arith) _ (over_here _ _ _ refl (omega arith)))))

pub returns-then-s-gt2-2 : goal.returns-then-s-gt2-2
unfolding fields
returns-then-s-gt2-2 c = over_past _ _ _ (omega (arith, c.if-last-word_at.false, c.word_at.ensures, c.saturating_sub-last.ensures)) _ (over_past _ _ _ (omega arith) _ (over_past _ _ _ (omega arith) _ (over_past _ _ _ (omega arith) _ (over_past _ _ _ (omega arith) _ (over_here _ _ _ refl (omega arith))))))

pub returns : goal.returns
unfolding fields
returns c = over_past _ _ _ (omega (arith, c.if-last-word_at.false, c.word_at.ensures, c.saturating_sub-last.ensures)) _ (over_past _ _ _ (omega arith) _ (over_past _ _ _ (omega arith) _ (over_past _ _ _ (omega arith) _ (over_past _ _ _ (omega arith) _ (over_past _ _ _ (omega arith) _ c.pin_fault.ensures)))))
