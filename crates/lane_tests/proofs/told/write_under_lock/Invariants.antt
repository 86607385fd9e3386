use Rattle.std.proofs.Common.{◌≤◌}
use Rattle.lane_tests.proofs.told.write_under_lock.Given as goal

abbrev pub invariant-loop-number : goal.invariant-loop-number
invariant-loop-number g l = l.added ≤ l.number
