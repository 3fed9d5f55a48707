-- `session`: the text of how it ended, and of its log.
use Rattle.playback.specs.Session.{text_of}
use Rattle.playback.proofs.Sessions.{put_together}
use Rattle.playback.proofs.session.Goals as goal

pub returns-clause-out_after : goal.returns-clause-out_after
unfolding text_of
returns-clause-out_after c =
    let a = c.args in
    let run = c.run-ending in
    put_together a.rom.now a.trace.now a.budget run.result _ _ run.ensures.0 run.ensures.1 c.put_lines-length.ensures.0
