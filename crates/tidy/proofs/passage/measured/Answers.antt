-- The start, a record passed, and what is measured where none can be read. Assumes nothing.
use Rattle.std.proofs.Common.{Bool, not, ◌-◌, ◌<◌, arith, ◌∙◌, sym, ap, subst, length}
use Rattle.trace.proofs.Entries.{rest_read, placed}
use Rattle.tidy.specs.Passage.{past_of}
use Rattle.tidy.specs.declared.passage.Passage.{Passage}
use Rattle.tidy.proofs.Further.{past_found, may_pass}
use Rattle.tidy.proofs.Along.{Along, along_first, along, measures}
use Rattle.tidy.proofs.passage.measured.Goals as goal

pub loop-r-init : goal.loop-r-init
loop-r-init c = subst (Along c.args.trace.now) (sym c.start-p.ensures) (along_first c.args.trace.now c.requires)

pub past-p-requires : goal.past-p-requires
past-p-requires c =
    let t = c.args.trace.now in
    may_pass t c.loop-r.p _ _ (sym (rest_read t c.loop-r.p.at) ∙ sym c.in-Some.ensures) (λ k. omega (arith, c.type_inv.trace k)) c.loop-r.invariant.way

pub loop-r-smaller : goal.loop-r-smaller
loop-r-smaller c =
    let t = c.args.trace.now in
    let l = placed t c.loop-r.p.at _ _ (sym (rest_read t c.loop-r.p.at) ∙ sym c.in-Some.ensures) in
    subst (λ (z : Passage). length t - z.at < length t - c.loop-r.p.at) (sym c.past-p.ensures) (omega (arith, l.some, l.inside))

pub loop-r-preserved : goal.loop-r-preserved
loop-r-preserved c =
    let t = c.args.trace.now in
    subst (Along t)
    (sym (c.past-p.ensures ∙ ap (λ (x : Bool). past_of c.loop-r.p c.in-Some.n c.in-Some.r.wait (not x)) c.only_waits.ensures ∙
    past_found t c.loop-r.p _ _ (sym (rest_read t c.loop-r.p.at) ∙ sym c.in-Some.ensures) (λ k. omega (arith, c.type_inv.trace k))))
    (along t (λ k. omega (arith, c.type_inv.trace k)) c.loop-r.p c.loop-r.invariant)

pub returns : goal.returns
returns c =
    let t = c.args.trace.now in
    measures t (λ k. omega (arith, c.type_inv.trace k)) c.loop-r.p c.loop-r.invariant
    (sym (rest_read t c.loop-r.p.at) ∙ sym c.read.ensures ∙ c.in_default.is)
