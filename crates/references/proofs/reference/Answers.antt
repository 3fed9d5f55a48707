-- The first byte decides first.
-- Assumes nothing.
use Rattle.std.proofs.Common.{arith, ◌≡◌, ◌≤◌, ◌<◌, ℕ, ap, ◌∙◌}
use borrow.Author.Tests.{le-ltb, lt-ltb}
use Rattle.references.specs.Reference.{coded_of, reference_of, target_of}
use Rattle.references.specs.declared.area.Reference.TheVariants.{Call, Jump}
use Rattle.references.proofs.reference.Goals as goal

module _ (x y : ℕ) where
  as-jump : x < 0x40 → Jump (target_of x y) ≡ reference_of x y
  unfolding reference_of
  as-jump h = simp (lt-ltb x 0x40 h)

  as_call : 0x40 ≤ x → x < 0x80 → Call (target_of x y) ≡ reference_of x y
  unfolding reference_of
  as_call h l = simp (le-ltb x 0x40 h, lt-ltb x 0x80 l)

  as-coded : 0x80 ≤ x → coded_of x y ≡ reference_of x y
  unfolding reference_of
  as-coded h = simp (le-ltb x 0x40 (omega arith), le-ltb x 0x80 h)

pub returns-in-0-to-63 : goal.returns-in-0-to-63
returns-in-0-to-63 c = ap Jump c.target.ensures ∙ as-jump c.args.b0 c.args.b1 (omega arith)

pub returns-in-64-to-127 : goal.returns-in-64-to-127
returns-in-64-to-127 c = ap Call c.target-in-64-to-127.ensures ∙ as_call c.args.b0 c.args.b1 (omega arith) (omega arith)

pub returns-in_default : goal.returns-in_default
returns-in_default c = c.coded.ensures ∙ as-coded c.args.b0 c.args.b1 (omega arith)
