use Rattle.std.proofs.Common.{◌≡◌, ◌+◌, ◌≤◌, length}
use Rattle.std.specs.List.{AllByRecursion}
use Rattle.lane_table.specs.Lanes.{seats_from}
use Rattle.replay_run.proofs.Lanes.{GoesOn}
use Rattle.replay_run.proofs.passes.open_callers.Given as goal
use Rattle.replay_run.specs.Opening.{IsAsker, IsPost}
use Rattle.tape_lanes.specs.Lanes.{by_lane}

abbrev pub invariant-lanes : goal.invariant-lanes
invariant-lanes g l =
    (l.lane ≤ 32)
    × (l.places.items ≡ seats_from g.J.Naming.table l.lane)
    × (l.calls.items ≡ by_lane g.J.Naming.calls l.lane)
    × AllByRecursion (IsPost g.J.Naming.list g.J.Naming.start g.J.Naming.bank) l.posts.items
    × (length l.initial.posts.items + l.lane ≡ length l.posts.items + 32)
    × GoesOn IsAsker l.lane 32 l.passes.items

abbrev pub decreases-lanes : goal.decreases-lanes
decreases-lanes g l = l.lane
