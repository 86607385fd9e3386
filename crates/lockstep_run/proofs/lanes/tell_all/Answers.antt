use Rattle.std.proofs.Common.{sym, subst}
use Rattle.byte_lanes.specs.Lane.{LaneState}
use Rattle.lockstep_run.specs.Telling.{TellsEntry}
use Rattle.lockstep_run.proofs.Notices.{entry_told, entry_passed}
use Rattle.lockstep_run.proofs.lanes.tell_all.Goals as goal
use Rattle.lockstep_run.proofs.lanes.tell_all.Goals.{then-entry-lane+in_ok-tell_notices, else-entry-lane}

pub loop-entry-preserved : goal.loop-entry-preserved
loop-entry-preserved c =
    elim c.if-entry-lane.branch [
      | then-entry-lane+in_ok-tell_notices w ↦
          entry_told c.args.lane c.args.journal.now c.loop-entry.entry-index c.entry-item.result w.as_slice.result.now c.args.link.now c.loop-entry.link c.if-entry-lane.link c.loop-entry-test.true c.entry-item.is c.loop-entry.invariant w.if-entry-lane.true w.as_slice.ensures
          (subst (λ (s : LaneState). TellsEntry c.args.lane w.as_slice.result.now c.loop-entry.link s) (sym w.link-is) w.in_ok-tell_notices.ensures)
      | else-entry-lane w ↦
          entry_passed c.args.lane c.args.journal.now c.loop-entry.entry-index c.entry-item.result c.args.link.now c.loop-entry.link c.if-entry-lane.link c.loop-entry-test.true c.entry-item.is c.loop-entry.invariant w.if-entry-lane.false w.link-is
    ]
