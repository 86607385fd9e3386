use Rattle.std.proofs.Common.{◌≡◌}
use Rattle.lane_tests.proofs.calls.make_all.Given as goal

abbrev pub invariant-loop : goal.invariant-loop
invariant-loop g l = l.pass.lane ≡ l.initial.pass.lane
