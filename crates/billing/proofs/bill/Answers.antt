-- `bill`: an order that can't be read, and one that is read.
use mathlib.Core.Path.{sym, ◌∙◌}
use Rattle.billing.proofs.Bills.{billed_unread, billed}
use Rattle.billing.proofs.bill.Goals as goal

pub returns-then-not-readable-clause-out_after : goal.returns-then-not-readable-clause-out_after
returns-then-not-readable-clause-out_after c =
    let a = c.args in
    let read = c.read-order in
    let left = sym read.ensures.readable ∙ c.if-not-readable.true in
    c.unread-printed.ensures.0 ∙ billed_unread a.rom.now a.trace.now a.order.now left

pub returns-clause-out_after : goal.returns-clause-out_after
returns-clause-out_after c =
    let a = c.args in
    let read = c.read-order in
    let taken = sym read.ensures.readable ∙ c.if-not-readable.false in
    c.slip-printed.ensures.out_after
    ∙ billed a.rom.now a.trace.now a.order.now taken read.result.budget read.ensures.budget c.steps.result c.steps.ensures _ read.ensures.marks
