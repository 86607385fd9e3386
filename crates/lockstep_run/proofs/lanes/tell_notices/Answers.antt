use Rattle.std.proofs.Common.{sym, subst}
use Rattle.byte_lanes.specs.Lane.{LaneState, TellsLane}
use Rattle.lockstep_run.proofs.Notices.{notice_told, notice_passed}
use Rattle.lockstep_run.proofs.lanes.tell_notices.Goals as goal
use Rattle.lockstep_run.proofs.lanes.tell_notices.Goals.{then-notice-lane+in_ok-tell, else-notice-lane}

pub loop-notice-preserved : goal.loop-notice-preserved
loop-notice-preserved c =
    elim c.if-notice-lane.branch [
      | then-notice-lane+in_ok-tell w ↦
          notice_told c.args.lane c.args.notices.now c.loop-notice.notice-index c.notice-item.result c.args.link.now c.loop-notice.link c.if-notice-lane.link c.loop-notice-test.true c.notice-item.is c.loop-notice.invariant w.if-notice-lane.true
          (subst (λ (s : LaneState). TellsLane c.notice-item.result.message c.loop-notice.link s) (sym w.link-is) w.in_ok-tell.ensures)
      | else-notice-lane w ↦
          notice_passed c.args.lane c.args.notices.now c.loop-notice.notice-index c.notice-item.result c.args.link.now c.loop-notice.link c.if-notice-lane.link c.loop-notice-test.true c.notice-item.is c.loop-notice.invariant w.if-notice-lane.false w.link-is
    ]
