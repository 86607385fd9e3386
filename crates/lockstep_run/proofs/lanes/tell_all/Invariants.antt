use Rattle.std.proofs.Common.{take}
use Rattle.lockstep_run.specs.Telling.{TellsAll}
use Rattle.lockstep_run.proofs.lanes.tell_all.Given as goal

abbrev pub invariant-loop-entry : goal.invariant-loop-entry
invariant-loop-entry l = TellsAll l.lane (take l.entry-index l.journal) l.fn.link l.link
