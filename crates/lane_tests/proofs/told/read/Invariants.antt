use Rattle.std.proofs.Common.{◌≡◌}
use Rattle.lane_tests.proofs.told.read.Given as goal

abbrev pub invariant-loop : goal.invariant-loop
invariant-loop g l = l.told.list ≡ l.initial.told.list
