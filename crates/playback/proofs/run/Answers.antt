-- `run`: a ROM that fresh refuses, and one that is played.
use Rattle.std.proofs.Common.{◌∙◌, sym, refl}
use Rattle.verdicts.proofs.Judging.{numbered}
use Rattle.playback.proofs.Sessions.{fails, plays, logs}
use Rattle.playback.proofs.run.Goals as goal

pub returns-in-Err : goal.returns-in-Err
returns-in-Err c =
    let a = c.args in
    let e = c.in-Err.refusal in
    fails a.rom.now a.trace.now a.log.now a.budget c.number.result (c.number.ensures ∙ c.in-Err.ensures.0) c.refused.result
    (λ z. numbered e (sym c.number.ensures ∙ z)) c.refused.ensures

pub returns : goal.returns
returns c =
    let a = c.args in
    let fresh = c.in_default.ensures in
    let played = c.played-answer in (
      plays a.rom.now a.trace.now a.log.now a.budget 0 fresh.0 refl _ _ _ fresh.1 played.result played.ensures c.load-cpu.result c.load-cpu.ensures,
      logs a.rom.now a.trace.now a.log.now a.budget 0 fresh.0 refl _ _ _ fresh.1 played.result played.ensures,
    )
