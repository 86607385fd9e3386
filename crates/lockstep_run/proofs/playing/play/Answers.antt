use Rattle.std.proofs.Common.{List, sym, subst}
use Rattle.byte_lanes.specs.Filling.{greeted}
use Rattle.byte_lanes.specs.Lane.{LaneState}
use Rattle.lockstep_run.specs.Playing.{AreLanes}
use Rattle.lockstep_run.proofs.Reporting.{begun_played}
use Rattle.lockstep_run.proofs.playing.play.Goals as goal

pub report_by-report-requires-clause-begun : goal.report_by-report-requires-clause-begun
report_by-report-requires-clause-begun c =
    begun_played c.args.start c.deref_mut.result.now c.in_ok-speaker.speaker c.open_lanes.new.speaker c.in_ok-speaker.ensures.played c.in_ok-speaker.ensures.quiet
    (subst (λ (lanes : List LaneState). AreLanes lanes greeted) (sym c.deref_mut.ensures.value) c.in-Ok.ensures.lanes) c.in-Ok.ensures.session c.in-Ok.ensures.short c.in-Ok.ensures.goes_on
