use Rattle.std.proofs.Common.{◌≡◌, ◌≤◌}
use Rattle.lane_tests.proofs.told.write.Given as goal

abbrev pub invariant-loop-number : goal.invariant-loop-number
invariant-loop-number g l = (l.told.list ≡ l.initial.told.list) × (l.added ≤ l.number)
