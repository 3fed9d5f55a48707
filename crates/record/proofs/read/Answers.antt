-- The reader's cases before it has a map, and with one. Assumes nothing.
use Rattle.std.proofs.Common.{◌∙◌, sym}
use Rattle.record.proofs.Records.{too_short, high_bits, no_bits, with_map}
use Rattle.record.proofs.read.Goals as goal
use Rattle.record.proofs.read.Goals.{then-hi-gt1-via-then-hi-gt1, then-hi-gt1-via-else-hi-gt1+then-word-eq0}

pub returns-in_default : goal.returns-in_default
returns-in_default c = too_short c.args.s.now c.in_default.len_below

pub returns-then-hi-gt1 : goal.returns-then-hi-gt1
returns-then-hi-gt1 c =
    elim c.then-hi-gt1.branch [
      | then-hi-gt1-via-then-hi-gt1 w ↦ high_bits c.args.s.now c.in-len2-up.len_at_least w.if-hi-gt1.true
      | then-hi-gt1-via-else-hi-gt1+then-word-eq0 w ↦ no_bits c.args.s.now c.in-len2-up.len_at_least w.if-hi-gt1.false (sym w.word.ensures ∙ w.if-word-eq0.true)
    ]

pub returns : goal.returns
returns c = c.read_as.ensures ∙ with_map c.args.s.now c.in-len2-up.len_at_least c.if-hi-gt1.false (λ e. c.if-word-eq0.false (c.word.ensures ∙ e))
