use Rattle.std.proofs.Common.{◌≡◌, length}
use Rattle.std.specs.List.{AllByRecursion}
use Rattle.ctl_lock.specs.Calls.{journal_of}
use Rattle.replay_run.proofs.Lanes.{GoesOn}
use Rattle.replay_run.proofs.ending.end_workers.Given as goal
use Rattle.replay_run.specs.Ends.{HasTaken, IsSeated}
use Rattle.run_lanes.specs.Gathered.{HasCarried, OfEach}

abbrev pub invariant-lanes : goal.invariant-lanes
invariant-lanes g l =
    (l.closed ≡ l.initial.closed)
    × OfEach HasTaken (length l.passes.items) l.passes.items
    × GoesOn (HasCarried l.initial.closed.told g.J.Naming.items (journal_of l.initial.closed.journal)) (length l.passes.items) 16 l.works.items
    × AllByRecursion (IsSeated g.J.Naming.bank) l.works.items

abbrev pub decreases-lanes : goal.decreases-lanes
decreases-lanes g l = length l.passes.items
