-- The call's cases. Assumes nothing.
use Rattle.std.proofs.Common.{arith, ◌∙◌, sym}
use Rattle.tidy.proofs.Calling.{refused_long, refused_malformed, refused_short, whole_written}
use Rattle.tidy.proofs.tidy.Goals as goal

pub returns-then-trace-gt-LONGEST : goal.returns-then-trace-gt-LONGEST
returns-then-trace-gt-LONGEST c = refused_long c.args.trace.now c.args.out.now _ c.refused.ensures c.if-trace-gt-LONGEST.true

pub returns-then-all-trace : goal.returns-then-all-trace
returns-then-all-trace c =
    refused_malformed c.args.trace.now c.args.out.now _ _ c.refused-then-all-trace.ensures c.measured-all.ensures.0 c.if-trace-gt-LONGEST.false
    c.if-all-trace.true

pub returns-then-out-all : goal.returns-then-out-all
returns-then-out-all c =
    refused_short c.args.trace.now c.args.out.now c.if-trace-gt-LONGEST.false (sym c.measured-all.ensures.0 ∙ c.if-all-trace.false) _
    c.measured-all.ensures.1 _ c.refused-then-out-all.ensures c.if-out-all.true

pub returns : goal.returns
returns c =
    whole_written c.args.trace.now c.args.out.now c.if-trace-gt-LONGEST.false (sym c.measured-all.ensures.0 ∙ c.if-all-trace.false) _
    c.measured-all.ensures.1 _ _ c.accepted.ensures c.write.ensures (omega (arith, c.measured-all.ensures.1, c.if-out-all.false))
