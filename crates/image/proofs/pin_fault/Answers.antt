use mathlib.Core.Path.{refl}
use Rattle.image.specs.Image.{pin_fields}
use Rattle.image.proofs.Laws.{over_here, over_past}
use Rattle.image.proofs.pin_fault.Goals as goal

pub returns-then-s-gt7 : goal.returns-then-s-gt7
unfolding pin_fields
returns-then-s-gt7 c = over_here _ _ _ refl c.if-s-gt7.true

pub returns-then-s-gt3 : goal.returns-then-s-gt3
unfolding pin_fields
returns-then-s-gt3 c = over_past _ _ _ c.if-s-gt7.false _ (over_here _ _ _ refl c.if-s-gt3.true)

pub returns-then-s-gt15 : goal.returns-then-s-gt15
unfolding pin_fields
returns-then-s-gt15 c = over_past _ _ _ c.if-s-gt7.false _ (over_past _ _ _ c.if-s-gt3.false _ (over_here _ _ _ refl c.if-s-gt15.true))

pub returns-then-s-gt7-2 : goal.returns-then-s-gt7-2
unfolding pin_fields
returns-then-s-gt7-2 c = over_past _ _ _ c.if-s-gt7.false _ (over_past _ _ _ c.if-s-gt3.false _ (over_past _ _ _ c.if-s-gt15.false _ (over_here _ _ _ refl c.if-s-gt7-2.true)))

pub returns-then-s-gt15-2 : goal.returns-then-s-gt15-2
unfolding pin_fields
returns-then-s-gt15-2 c = over_past _ _ _ c.if-s-gt7.false _ (over_past _ _ _ c.if-s-gt3.false _ (over_past _ _ _ c.if-s-gt15.false _ (over_past _ _ _ c.if-s-gt7-2.false _ (over_here _ _ _ refl c.if-s-gt15-2.true))))

pub returns-then-s-gt15-3 : goal.returns-then-s-gt15-3
unfolding pin_fields
returns-then-s-gt15-3 c = over_past _ _ _ c.if-s-gt7.false _ (over_past _ _ _ c.if-s-gt3.false _ (over_past _ _ _ c.if-s-gt15.false _ (over_past _ _ _ c.if-s-gt7-2.false _ (over_past _ _ _ c.if-s-gt15-2.false _ (over_here _ _ _ refl c.if-s-gt15-3.true)))))

pub returns-then-s-gt15-4 : goal.returns-then-s-gt15-4
unfolding pin_fields
returns-then-s-gt15-4 c = over_past _ _ _ c.if-s-gt7.false _ (over_past _ _ _ c.if-s-gt3.false _ (over_past _ _ _ c.if-s-gt15.false _ (over_past _ _ _ c.if-s-gt7-2.false _ (over_past _ _ _ c.if-s-gt15-2.false _ (over_past _ _ _ c.if-s-gt15-3.false _ (over_here _ _ _ refl c.if-s-gt15-4.true))))))

pub returns : goal.returns
unfolding pin_fields
returns c = over_past _ _ _ c.if-s-gt7.false _ (over_past _ _ _ c.if-s-gt3.false _ (over_past _ _ _ c.if-s-gt15.false _ (over_past _ _ _ c.if-s-gt7-2.false _ (over_past _ _ _ c.if-s-gt15-2.false _ (over_past _ _ _ c.if-s-gt15-3.false _ (over_past _ _ _ c.if-s-gt15-4.false _ c.timing_fault.ensures))))))
