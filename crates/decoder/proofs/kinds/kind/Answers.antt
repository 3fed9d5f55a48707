-- Of the codes without a length, the two lists are told apart (`kind_listed`).
-- Assumes nothing.
use Rattle.std.proofs.Common.{arith, sym, ◌∙◌, eq-eqb}
use borrow.Author.Tests.{ne_eqb}
use Rattle.codes.proofs.Told.{kind_listed}
use Rattle.decoder.proofs.kinds.kind.Goals as goal

pub returns-then-outside_letter : goal.returns-then-outside_letter
returns-then-outside_letter c = sym (kind_listed c.args.b0 c.args.b1 (omega arith) (omega arith) ∙ simp (sym c.outside_letter.ensures, c.if-outside_letter.true))

pub returns-then-outside_set : goal.returns-then-outside_set
returns-then-outside_set c =
    sym (kind_listed c.args.b0 c.args.b1 (omega arith) (omega arith) ∙ simp (sym c.outside_set.ensures, c.if-outside_set.true, sym c.outside_letter.ensures, c.if-outside_letter.false))

pub returns-then-info-eq-UNDEFINED : goal.returns-then-info-eq-UNDEFINED
returns-then-info-eq-UNDEFINED c =
    sym (
    kind_listed c.args.b0 c.args.b1 (omega arith) (omega arith) ∙
    simp (eq-eqb _ _ c.if-info-eq-UNDEFINED.true, sym c.info.ensures, sym c.outside_set.ensures, c.if-outside_set.false, sym c.outside_letter.ensures, c.if-outside_letter.false)
    )

pub returns-else-info-eq-UNDEFINED : goal.returns-else-info-eq-UNDEFINED
returns-else-info-eq-UNDEFINED c =
    sym (
    kind_listed c.args.b0 c.args.b1 (omega arith) (omega arith) ∙
    simp (ne_eqb _ _ c.if-info-eq-UNDEFINED.false, sym c.info.ensures, sym c.outside_set.ensures, c.if-outside_set.false, sym c.outside_letter.ensures, c.if-outside_letter.false)
    )
