use Rattle.lockstep_run.proofs.Reporting.{report_played}
use Rattle.lockstep_run.proofs.playing.report_by.Goals as goal

pub returns : goal.returns
returns c =
    report_played c.args.start c.args.items.now c.play_each.new.lanes c.play_each.new.speaker c.journal.result.now c.in_ok-sent.sent c.finish.result c.in_ok-play_each.ensures c.journal.ensures c.in_ok-sent.ensures c.finish.ensures
