-- A record is there, or none. Assumes nothing.
use Rattle.std.proofs.Common.{◌∙◌, sym}
use Rattle.trace.proofs.Entries.{next_none, next_due}
use Rattle.trace.proofs.due_next.Goals as goal

pub returns-in_default : goal.returns-in_default
returns-in_default c = sym (next_none c.args.trace.now c.args.cursor c.args.passed (sym c.next_record.ensures ∙ c.in_default.is))

pub returns : goal.returns
returns c = next_due c.args.trace.now c.args.cursor c.args.passed _ _ _ (sym c.in-Some.ensures) c.from.ensures
