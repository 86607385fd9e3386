use Rattle.std.proofs.Common.{◌≡◌, ◌≤◌, [], vec_len, vec_capacity}
use Rattle.lane_table.specs.Lanes.{seats_from}
use Rattle.lane_table.proofs.opening.open_lanes.Given as goal

abbrev pub invariant-loop : goal.invariant-loop
invariant-loop g l =
    (l.seats.items ≡ seats_from l.table l.counter)
    × (vec_len l.seats ≡ l.counter)
    × (32 ≤ vec_capacity l.seats)
    × (l.journal ≡ record { table = l.table; entries = []; lanes = l.counter })
