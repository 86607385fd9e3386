use Rattle.std.proofs.Common.{◌≡◌, length}
use Rattle.std.specs.List.{AllByRecursion}
use Rattle.ctl_lock.specs.Calls.{journal_of}
use Rattle.replay_run.proofs.Lanes.{GoesOn}
use Rattle.replay_run.proofs.ending.end_callers.Given as goal
use Rattle.replay_run.specs.Ends.{HasAsked, IsSeated}
use Rattle.run_lanes.specs.Gathered.{HasCalled, HasRead, OfEach}

abbrev pub invariant-lanes : goal.invariant-lanes
invariant-lanes g l =
    (l.closed ≡ l.initial.closed)
    × OfEach HasAsked (length l.passes.items) l.passes.items
    × GoesOn (HasCalled l.initial.closed.told g.J.Naming.calls (journal_of l.initial.closed.journal)) (length l.passes.items) 32 l.works.items
    × GoesOn (HasRead g.J.Naming.start l.initial.closed.journal) (length l.passes.items) 32 l.works.items
    × AllByRecursion (IsSeated g.J.Naming.bank) l.works.items

abbrev pub decreases-lanes : goal.decreases-lanes
decreases-lanes g l = length l.passes.items
