use Rattle.std.proofs.Common.{take}
use Rattle.lockstep_run.specs.Telling.{TellsEntry}
use Rattle.lockstep_run.proofs.lanes.tell_notices.Given as goal

abbrev pub invariant-loop-notice : goal.invariant-loop-notice
invariant-loop-notice l = TellsEntry l.lane (take l.notice-index l.notices) l.fn.link l.link
