-- A turn of the loop, and the whole form at its end. Assumes nothing.
use Rattle.std.proofs.Common.{ℕ, ◌-◌, ◌<◌, arith, ◌∙◌, sym, ap, subst, List, length}
use Rattle.std.proofs.lemmas.List.Edits.{sets}
use Rattle.record.proofs.Records.{Bytes}
use Rattle.tidy.specs.Tidy.{tidy_of}
use Rattle.tidy.specs.Passage.{added_of}
use Rattle.tidy.specs.declared.passage.Passage.{Passage}
use Rattle.tidy.proofs.Along.{Along, along, room, readable, nearer, reached}
use Rattle.tidy.proofs.Growing.{begun_length, begun_whole, begun_more}
use Rattle.tidy.proofs.writer.write.Goals as goal

pub put_further-p-requires : goal.put_further-p-requires
put_further-p-requires c =
    let t = c.args.trace.now in
    let l = c.loop-p in
    let y : Bytes t = (λ k. omega (arith, c.type_inv.trace k)) in (
      l.invariant.0.way,
      readable t y l.p l.invariant.0 c.requires.1 c.loop-p-test.true,
      omega (
        arith,
        room t y l.p l.invariant.0,
        c.requires.2,
        ap length l.invariant.1,
        begun_length (tidy_of t) c.args.out.now l.p.put l.invariant.0.written c.requires.2,
      ),
    )

pub loop-p-smaller : goal.loop-p-smaller
loop-p-smaller c =
    let t = c.args.trace.now in
    let l = c.loop-p in
    subst (λ (z : Passage). length t - z.at < length t - l.p.at) (sym c.put_further-p.ensures.0)
    (nearer t (λ k. omega (arith, c.type_inv.trace k)) l.p l.invariant.0 c.requires.1 c.loop-p-test.true)

pub loop-p-preserved : goal.loop-p-preserved
loop-p-preserved c =
    let t = c.args.trace.now in
    let l = c.loop-p in
    let y : Bytes t = (λ k. omega (arith, c.type_inv.trace k)) in
    let put = c.put_further-p.ensures in (
      subst (Along t) (sym put.0) (along t y l.p l.invariant.0),
      put.1 ∙ ap (λ (o : List ℕ). sets o l.p.put (added_of t l.p)) l.invariant.1 ∙
          begun_more t y l.p l.invariant.0 c.args.out.now c.requires.2 c.put_further-p.result put.0,
    )

pub returns : goal.returns
returns c =
    c.loop-p.invariant.1 ∙
    begun_whole (tidy_of c.args.trace.now) c.args.out.now c.loop-p.p.put
    (reached c.args.trace.now (λ k. omega (arith, c.type_inv.trace k)) c.loop-p.p c.loop-p.invariant.0 (omega (arith, c.loop-p-test.false)))
