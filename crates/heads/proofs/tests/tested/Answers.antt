-- `heads::tests::tested` meets its contract. The loop's invariant: the heads passed are accepted, what they go on with is put down, and those left decide.
-- Assumes nothing.
use Prim.Native.Nat.{ℕ, ◌+◌, ◌*◌, ◌≤◌}
use native.Mathlib.Omega.{arith}
use mathlib.Core.Path.{refl, subst⁻¹}
use lib.ListN.{length}
use Rattle.parts.proofs.Laws.{share_fits}
use Rattle.heads.specs.Call.{call_verdict}
use Rattle.heads.proofs.Testing.{lent, Sizes, sizes_apart, none_yet, refuses, sizes_right, refused_head, further, all_begin}
use Rattle.heads.proofs.tests.tested.Goals as goal

pub returns-in_err-judge_sizes : goal.returns-in_err-judge_sizes
unfolding call_verdict
returns-in_err-judge_sizes c =
    let a = c.args in
    let d = lent a.heads a.rom.now a.table.now a.states.now a.traces.now a.lengths.now a.log.now a.starts.now in
    refuses d a.q _ _ c.from_residual.ensures.1 (c.in_err-judge_sizes.ensures _)

pub share-part-requires : goal.share-part-requires
share-part-requires c =
    let a = c.args in
    let d = lent a.heads a.rom.now a.table.now a.states.now a.traces.now a.lengths.now a.log.now a.starts.now in
    (sizes_apart d a.q (sizes_right d a.q c.in_ok-judge_sizes.ensures)).some

pub loop-i-init : goal.loop-i-init
loop-i-init c =
    let a = c.args in
    let d = lent a.heads a.rom.now a.table.now a.states.now a.traces.now a.lengths.now a.log.now a.starts.now in
    none_yet d _ c.unturned-answer.result refl c.unturned-answer.ensures

pub bounds-starts-i : goal.bounds-starts-i
bounds-starts-i c =
    let a = c.args in
    let d = lent a.heads a.rom.now a.table.now a.states.now a.traces.now a.lengths.now a.log.now a.starts.now in
    let s : Sizes d = sizes_apart d a.q (sizes_right d a.q c.in_ok-judge_sizes.ensures) in
    omega (arith, s.starts)

pub judge_head-requires : goal.judge_head-requires
judge_head-requires c =
    let a = c.args in
    let d = lent a.heads a.rom.now a.table.now a.states.now a.traces.now a.lengths.now a.log.now a.starts.now in
    let s : Sizes d = sizes_apart d a.q (sizes_right d a.q c.in_ok-judge_sizes.ensures) in
    let i = c.loop-i.i in
    let g = length a.log.now in
    record {
      table_value = c.loop-i.invariant.tabled;
      image_size_in_bounds = omega (arith, s.states);
      i_in_bounds = omega (arith, s.lengths);
      lengths_value = s.traces;
      part_in_bounds = subst⁻¹ (λ (w : ℕ). w * i + w ≤ g) c.share-part.ensures (share_fits g a.heads i s.some c.loop-i-test.true);
    }

pub returns-in_err-due : goal.returns-in_err-due
returns-in_err-due c =
    let a = c.args in
    let d = lent a.heads a.rom.now a.table.now a.states.now a.traces.now a.lengths.now a.log.now a.starts.now in
    let l = c.loop-i in
    refuses d a.q _ _ c.from_residual-in_err-due.ensures.1
    (refused_head d l.i l.due l.answer l.invariant _ c.share-part.ensures _ c.judge_head.ensures c.loop-i-test.true a.q _ (sizes_right d a.q c.in_ok-judge_sizes.ensures) c.in_err-due.was)

pub bounds-due-i : goal.bounds-due-i
bounds-due-i c =
    let a = c.args in
    let d = lent a.heads a.rom.now a.table.now a.states.now a.traces.now a.lengths.now a.log.now a.starts.now in
    let s : Sizes d = sizes_apart d a.q (sizes_right d a.q c.in_ok-judge_sizes.ensures) in
    omega (arith, s.most)

pub bounds-answer-i : goal.bounds-answer-i
bounds-answer-i c =
    let a = c.args in
    let d = lent a.heads a.rom.now a.table.now a.states.now a.traces.now a.lengths.now a.log.now a.starts.now in
    let s : Sizes d = sizes_apart d a.q (sizes_right d a.q c.in_ok-judge_sizes.ensures) in
    omega (arith, s.most)

pub loop-i-preserved : goal.loop-i-preserved
loop-i-preserved c =
    let a = c.args in
    let d = lent a.heads a.rom.now a.table.now a.states.now a.traces.now a.lengths.now a.log.now a.starts.now in
    let s : Sizes d = sizes_apart d a.q (sizes_right d a.q c.in_ok-judge_sizes.ensures) in
    let l = c.loop-i in
    further d l.i l.due l.answer l.invariant _ c.share-part.ensures _ c.judge_head.ensures
    c.loop-i-test.true _ c.in_ok-due.was _ c.unturned.ensures s.most

pub returns : goal.returns
returns c =
    let a = c.args in
    let d = lent a.heads a.rom.now a.table.now a.states.now a.traces.now a.lengths.now a.log.now a.starts.now in
    let l = c.loop-i in
    all_begin d a.q l.i l.due l.answer l.invariant c.loop-i-test.false (sizes_right d a.q c.in_ok-judge_sizes.ensures)
