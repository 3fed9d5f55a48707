-- `heads::dispatch` meets its contract: a refusal, or the turns. The invariant: what is left of the turns, from what the buffers hold now, ends where all turns
-- end from what was lent (`Round`).
-- Assumes nothing.
use Prim.Native.Nat.{ℕ, ◌-◌}
use native.Mathlib.Omega.{arith}
use mathlib.Core.Path.{refl, sym, subst, subst⁻¹}
use borrow.Author.Rules.{rules}
use borrow.Author.Tests.{eq-eqb, ne_eqb}
use lib.ListN.{get_or, set}
use Rattle.invariant.specs.Sound.{Bytes}
use Rattle.heads.specs.Heads.{after}
use Rattle.heads.specs.Call.{no_answer}
use Rattle.heads.specs.Turning.{Fitting, TurnMade}
use Rattle.heads.proofs.Round.{Round, fitting, passes, gives, over}
use Rattle.heads.proofs.Testing.{lent, accepted_apart}
use Rattle.heads.proofs.Begun.{tabled_by, begun, refused_by, answers_by}
use Rattle.heads.proofs.dispatch.Goals as goal

pub returns-in-Err : goal.returns-in-Err
returns-in-Err c =
    let a = c.args in
    let d = lent a.heads a.rom.now a.table.now a.states.now a.traces.now a.lengths.now a.log.now a.starts.now in
    refused_by d a.q a.turns _ _ c.in-Err.ensures.verdict _ c.refused.ensures

pub share-part-requires : goal.share-part-requires
share-part-requires c =
    let a = c.args in
    let d = lent a.heads a.rom.now a.table.now a.states.now a.traces.now a.lengths.now a.log.now a.starts.now in
    (accepted_apart d a.q (sym c.in-Ok.ensures.verdict)).0.some

pub loop-look-init : goal.loop-look-init
loop-look-init c =
    let a = c.args in
    let d = lent a.heads a.rom.now a.table.now a.states.now a.traces.now a.lengths.now a.log.now a.starts.now in
    let from = c.in-Ok.from in
    let ok = sym c.in-Ok.ensures.verdict in
    let bytes : Bytes a.rom.now = λ i. omega (arith, c.type_inv.rom i) in
    let state_bytes : Bytes a.states.now = λ i. search rules in (
      ok,
      (
        bytes,
        subst⁻¹ (λ (k : ℕ). Round d a.q a.turns (tabled_by d a.q ok) bytes a.states.now a.log.now from.answer from.due a.turns k 0) c.looks-look.ensures
            (begun d a.q ok a.turns bytes state_bytes from (c.in-Ok.ensures.stands _ refl)),
      ),
    )

pub turn-r-requires : goal.turn-r-requires
turn-r-requires c =
    let a = c.args in
    let d = lent a.heads a.rom.now a.table.now a.states.now a.traces.now a.lengths.now a.log.now a.starts.now in
    let l = c.loop-look in
    let tabled = tabled_by d a.q l.invariant.0 in
    let bytes = l.invariant.1.0 in
    let r = l.invariant.1.1 in
    subst⁻¹ (λ (w : ℕ). Fitting l.i a.table.now l.states a.traces.now a.lengths.now l.log w a.q (get_or l.answer l.i no_answer) (get_or l.due l.i 0)) c.share-part.ensures
    (fitting d a.q a.turns tabled bytes l.states l.log l.answer l.due l.left l.look l.i r (eq-eqb _ _ c.if-before-eq-DONE.true))

pub loop-look-preserved-then-before-eq-DONE : goal.loop-look-preserved-then-before-eq-DONE
loop-look-preserved-then-before-eq-DONE c =
    let a = c.args in
    let d = lent a.heads a.rom.now a.table.now a.states.now a.traces.now a.lengths.now a.log.now a.starts.now in
    let l = c.loop-look in
    let tabled = tabled_by d a.q l.invariant.0 in
    let bytes = l.invariant.1.0 in
    let r = l.invariant.1.1 in
    let t = c.turn-r in
    let s = t.new.states in
    let g = t.new.log in
    let answer = set l.answer l.i t.result.answer in
    let due = set l.due l.i t.result.due in
    let made = subst (λ (w : ℕ). TurnMade l.i a.table.now l.states a.traces.now a.lengths.now l.log w a.q (get_or l.answer l.i no_answer) t.result s g) c.share-part.ensures t.ensures in (
      l.invariant.0,
      (
        bytes,
        subst⁻¹ (λ (k : ℕ). Round d a.q a.turns tabled bytes s g answer due (l.left - 1) c.looks-look-then-before-eq-DONE.result k) c.following-next.ensures
            (subst⁻¹ (λ (k : ℕ). Round d a.q a.turns tabled bytes s g answer due (l.left - 1) k (after a.heads l.i)) c.looks-look-then-before-eq-DONE.ensures
            (gives d a.q a.turns tabled bytes l.states l.log l.answer l.due l.left l.look l.i r c.loop-look-test.true (eq-eqb _ _ c.if-before-eq-DONE.true) t.result s g made t.auto.states t.auto.log)),
      ),
    )

pub loop-look-preserved : goal.loop-look-preserved
loop-look-preserved c =
    let a = c.args in
    let d = lent a.heads a.rom.now a.table.now a.states.now a.traces.now a.lengths.now a.log.now a.starts.now in
    let l = c.loop-look in
    let tabled = tabled_by d a.q l.invariant.0 in
    let bytes = l.invariant.1.0 in
    let r = l.invariant.1.1 in (
      l.invariant.0,
      (
        bytes,
        subst⁻¹ (λ (k : ℕ). Round d a.q a.turns tabled bytes l.states l.log l.answer l.due l.left (l.look - 1) k) c.following-next.ensures
            (passes d a.q a.turns tabled bytes l.states l.log l.answer l.due l.left l.look l.i r c.loop-look-test.true (ne_eqb _ _ c.if-before-eq-DONE.false)),
      ),
    )

pub returns : goal.returns
returns c =
    let a = c.args in
    let d = lent a.heads a.rom.now a.table.now a.states.now a.traces.now a.lengths.now a.log.now a.starts.now in
    let l = c.loop-look in
    let tabled = tabled_by d a.q l.invariant.0 in
    let bytes = l.invariant.1.0 in
    let r = l.invariant.1.1 in
    answers_by d a.q a.turns _ l.states l.log l.invariant.0
    (over d a.q a.turns tabled bytes l.states l.log l.answer l.due l.left l.look l.i r (omega (arith, c.loop-look-test.false)))
