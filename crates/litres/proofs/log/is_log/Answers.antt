-- A record whose clock falls, one that is not sound, and one that is. Assumes nothing.
use Rattle.std.proofs.Common.{◌∙◌, sym}
use Rattle.litres.proofs.Records.{changes_met, sound_more, sound_falls, sound_fails}
use Rattle.litres.proofs.log.is_log.Goals as goal
use Rattle.litres.proofs.log.is_log.Goals.{then-c-last-via-then-c-last, then-c-last-via-else-c-last+then-not-is_sound}

pub returns-then-c-last : goal.returns-then-c-last
returns-then-c-last c =
    let step = c.in-Some.ensures.steps in
    let o = c.loop-record.invariant in
    let met = changes_met _ c.in-Some.record.now _ c.change_in-c.result step.1.0 (step.1.1 ∙ o.sized) c.change_in-c.ensures in
    sym (o.sound ∙ elim c.then-c-last.branch [
      | then-c-last-via-then-c-last w ↦ sound_falls _ _ _ c.change_in-c.result met w.if-c-last.true
      | then-c-last-via-else-c-last+then-not-is_sound w ↦ sound_fails _ _ _ c.change_in-c.result met (sym w.if-not-is_sound.ensures)
    ])

pub loop-record-preserved : goal.loop-record-preserved
loop-record-preserved c =
    let step = c.in-Some.ensures.steps in
    let o = c.loop-record.invariant in
    let met = changes_met _ c.in-Some.record.now _ c.change_in-c.result step.1.0 (step.1.1 ∙ o.sized) c.change_in-c.ensures in
    record {
      sized = step.0 ∙ o.sized;
      sound = o.sound ∙ sound_more _ _ _ c.change_in-c.result met c.if-c-last.false (sym c.if-not-is_sound.ensures);
    }
