use Rattle.std.proofs.Common.{◌∙◌, sym, arith}
use Rattle.image.proofs.Laws.{nibbles_long, fault_on, fault_at, fault_end, fit_on, fit_end}
use Rattle.image.proofs.nibble_fault.Goals as goal

pub slice_bounds-b-items-end : goal.slice_bounds-b-items-end
slice_bounds-b-items-end c = sym (nibbles_long c.args.s.now (omega arith))

pub loop-b-preserved : goal.loop-b-preserved
loop-b-preserved c = fit_on c.loop-b.fit _ _ (omega (arith, nibbles_long c.args.s.now (omega arith))) c.loop-b.invariant

pub returns-then-fit : goal.returns-then-fit
returns-then-fit c = fit_end _ _ (omega (arith, nibbles_long c.args.s.now (omega arith))) (c.loop-b.invariant c.if-fit.true)

pub returns-then-not-nibble_fits : goal.returns-then-not-nibble_fits
returns-then-not-nibble_fits c =
    fault_at _ _ (omega (arith, nibbles_long c.args.s.now (omega arith))) (sym c.nibble_fits.ensures ∙ c.if-not-nibble_fits.true) c.loop-i.invariant

pub loop-i-preserved : goal.loop-i-preserved
loop-i-preserved c =
    fault_on _ _ (omega (arith, nibbles_long c.args.s.now (omega arith))) (sym c.nibble_fits.ensures ∙ c.if-not-nibble_fits.false) ∙ c.loop-i.invariant

pub returns : goal.returns
returns c = fault_end _ _ (omega (arith, nibbles_long c.args.s.now (omega arith))) c.loop-i.invariant
