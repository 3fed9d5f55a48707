-- `budgets::table_runs` meets its contract: each call goes on from what the call before it left, and its answer is recorded behind the others.
-- Assumes nothing.
use Rattle.std.proofs.Common.{arith}
use mathlib.Core.Path.{subst⁻¹}
use Rattle.invariant.specs.Sound.{Bytes}
use Rattle.budgets.specs.Claim.{Claim}
use Rattle.budgets.proofs.Claimed.{claim}
use Rattle.budgets.proofs.Recording.{begin, far_more, all_made}
use Rattle.budgets.proofs.table_runs.Goals as goal

pub loop-i-init : goal.loop-i-init
loop-i-init c = record { far = begin _ _; bytes = λ i. omega (arith, c.type_inv.state i) }

pub loop-i-preserved : goal.loop-i-preserved
loop-i-preserved c =
    let a = c.args in
    let l = c.loop-i in
    let r = c.table_run-r in
    record {
      far = far_more a.rom.now a.table.now a.trace.now _ l.state l.log r.new.state r.new.log l.end l.i a.budgets.now a.answers.now l.answers
          c.put_answer.new.words r.result c.loop-i-test.true (omega arith) r.ensures c.put_answer.ensures l.invariant.far;
      bytes = l.invariant.bytes;
    }

pub returns : goal.returns
returns c =
    let a = c.args in
    let l = c.loop-i in
    let rom_known : Bytes a.rom.now = λ i. omega (arith, c.type_inv.rom i) in
    let made = all_made a.rom.now a.table.now a.trace.now a.state.now a.log.now a.start a.budgets.now
    l.state l.log l.end l.i a.answers.now l.answers c.loop-i-test.false l.auto.i-end l.invariant.far in (
      c.if-answers-budgets.false,
      record {
        calls = made.0;
        claim =
            subst⁻¹ (Claim a.rom.now a.table.now a.trace.now a.state.now a.log.now a.start a.budgets.now) made.0
            (claim a.rom.now a.table.now a.trace.now a.state.now a.log.now a.start a.budgets.now rom_known l.invariant.bytes);
        rest = made.1;
      },
    )
