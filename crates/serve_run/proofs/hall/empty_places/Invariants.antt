use Rattle.std.proofs.Common.{◌≤◌, ◌-◌, length}
use Rattle.serve_run.proofs.hall.empty_places.Given as goal

abbrev pub invariant-lanes : goal.invariant-lanes
invariant-lanes g l = length l.places.items ≤ 32

abbrev pub decreases-lanes : goal.decreases-lanes
decreases-lanes g l = 32 - length l.places.items
