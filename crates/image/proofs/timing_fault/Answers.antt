use mathlib.Core.Path.{refl}
use native.Mathlib.Omega.{arith}
use Rattle.image.specs.Image.{timing_fields}
use Rattle.image.proofs.Laws.{over_here, over_past, over_none}
use Rattle.image.proofs.timing_fault.Goals as goal

pub returns-then-word_at-gt32767 : goal.returns-then-word_at-gt32767
unfolding timing_fields
returns-then-word_at-gt32767 c = over_here _ _ _ refl (omega (arith, c.word_at.ensures))

pub returns-then-word_at-gt-HELD_CYCLES : goal.returns-then-word_at-gt-HELD_CYCLES
unfolding timing_fields
returns-then-word_at-gt-HELD_CYCLES c = over_past _ _ _ (omega (arith, c.word_at.ensures)) _ (over_here _ _ _ refl (omega (arith, c.word_at-2.ensures)))

pub returns : goal.returns
unfolding timing_fields
returns c = over_past _ _ _ (omega (arith, c.word_at.ensures)) _ (over_past _ _ _ (omega (arith, c.word_at-2.ensures)) _ (over_none _))
