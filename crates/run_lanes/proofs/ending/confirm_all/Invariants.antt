use Rattle.std.proofs.Common.{◌≡◌, ◌++◌, List, length}
use Rattle.std.specs.List.{AllByRecursion}
use Rattle.ctl_lock.specs.Calls.{journal_of}
use Rattle.ctl_lock.specs.Finishing.{Meeting}
use Rattle.run_lanes.specs.Gathered.{IsThrough}
use Rattle.run_lanes.proofs.Closes.{AreConfirmed}
use Rattle.run_lanes.proofs.ending.confirm_all.Given as goal

abbrev pub invariant-mets : goal.invariant-mets
invariant-mets g l = (l.closed ≡ l.initial.closed) × AreConfirmed (IsThrough (journal_of l.initial.closed.journal)) l.initial.mets.items l.mets.items

abbrev pub decreases-mets : goal.decreases-mets
decreases-mets g l = length l.mets.items
