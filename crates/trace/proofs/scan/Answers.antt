-- The trace is too long; a record passed keeps what holds, and leaves fewer bytes; and what is concluded where none can be read. Assumes nothing.
use Rattle.std.proofs.Common.{◌<◌, ◌-◌, length, arith, ◌∙◌, sym, subst}
use Rattle.trace.specs.Cases.{too_long}
use Rattle.trace.specs.declared.pass.Pass.{Pass}
use Rattle.trace.proofs.Entries.{rest_read, placed}
use Rattle.trace.proofs.Scanning.{Along, along, along_fits, concludes}
use Rattle.trace.proofs.scan.Goals as goal

pub returns-then-trace-gt-LONGEST : goal.returns-then-trace-gt-LONGEST
returns-then-trace-gt-LONGEST c = sym (too_long c.args.trace.now c.args.cursor c.if-trace-gt-LONGEST.true)

pub past-p-requires : goal.past-p-requires
past-p-requires c =
    let t = c.args.trace.now in
    let l = placed t c.loop-r.p.at _ _ (sym (rest_read t c.loop-r.p.at) ∙ sym c.in-Some.ensures) in
    (omega (arith, l.inside), along_fits t c.args.cursor c.loop-r.p c.if-trace-gt-LONGEST.false c.loop-r.invariant)

pub loop-r-smaller : goal.loop-r-smaller
loop-r-smaller c =
    let t = c.args.trace.now in
    let l = placed t c.loop-r.p.at _ _ (sym (rest_read t c.loop-r.p.at) ∙ sym c.in-Some.ensures) in
    subst (λ (p : Pass). length t - p.at < length t - c.loop-r.p.at) (sym c.past-p.ensures) (omega (arith, l.some, l.inside))

pub loop-r-preserved : goal.loop-r-preserved
loop-r-preserved c =
    let t = c.args.trace.now in
    subst (Along t c.args.cursor) (sym c.past-p.ensures)
    (along t c.args.cursor c.loop-r.p (λ k. omega (arith, c.type_inv.trace k)) c.loop-r.invariant _ _
    (sym (rest_read t c.loop-r.p.at) ∙ sym c.in-Some.ensures))

pub returns : goal.returns
returns c =
    let t = c.args.trace.now in
    c.concluded.ensures ∙
    concludes t c.args.cursor c.loop-r.p c.if-trace-gt-LONGEST.false c.loop-r.invariant
    (sym (rest_read t c.loop-r.p.at) ∙ sym c.read.ensures ∙ c.in_default.is)
