use Rattle.std.proofs.Common.{◌≡◌, ◌+◌, ◌≤◌, length}
use Rattle.std.specs.List.{AllByRecursion}
use Rattle.replay_run.proofs.Lanes.{GoesOn}
use Rattle.replay_run.proofs.passes.open_workers.Given as goal
use Rattle.replay_run.specs.Opening.{IsPost, IsTaker}
use Rattle.tape_lanes.specs.Lanes.{by_lane}

abbrev pub invariant-lanes : goal.invariant-lanes
invariant-lanes g l =
    (l.lane ≤ 16)
    × (l.items.items ≡ by_lane g.J.Naming.items l.lane)
    × AllByRecursion (IsPost g.J.Naming.list g.J.Naming.start g.J.Naming.bank) l.posts.items
    × (l.lane ≤ length l.posts.items)
    × GoesOn IsTaker l.lane 16 l.passes.items

abbrev pub decreases-lanes : goal.decreases-lanes
decreases-lanes g l = l.lane
