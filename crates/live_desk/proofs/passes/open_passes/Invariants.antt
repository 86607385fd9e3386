use Rattle.std.proofs.Common.{◌≡◌, ◌+◌, ◌≤◌, ◌++◌, length, map}
use Rattle.std.specs.List.{AllByRecursion}
use Rattle.live_desk.proofs.passes.open_passes.Given as goal
use Rattle.lane_table.specs.Lanes.{seats_from}
use Rattle.live_desk.specs.Opening.{IsFresh, IsNew, lanes_below}
use Rattle.live_desk.specs.Passing.{Passing}

abbrev pub invariant-lanes : goal.invariant-lanes
invariant-lanes g l =
    (l.lane ≤ 32)
    × (l.places.items ≡ seats_from g.J.Naming.table l.lane)
    × AllByRecursion (IsFresh g.J.Naming.list g.J.Naming.start g.J.Naming.bank) l.workers.items
    × (length l.initial.workers.items + l.lane ≡ length l.workers.items + 32)
    × (map (λ (p : Passing). p.lane) l.passes.items ++ lanes_below l.lane ≡ lanes_below 32)
    × AllByRecursion (IsNew g.J.Naming.list g.J.Naming.start g.J.Naming.bank) l.passes.items

abbrev pub decreases-lanes : goal.decreases-lanes
decreases-lanes g l = l.lane
