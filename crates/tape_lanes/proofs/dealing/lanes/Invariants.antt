use Rattle.std.proofs.Common.{◌≡◌, [], replicate}
use Rattle.tape_lanes.proofs.dealing.lanes.Given as goal

abbrev pub invariant-loop : goal.invariant-loop
invariant-loop g l = l.lanes.items ≡ replicate l.counter []
