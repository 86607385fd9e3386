use Rattle.std.proofs.Common.{◌≡◌, length}
use Rattle.run_lanes.proofs.asking.ask_all.Given as goal

abbrev pub invariant-calls : goal.invariant-calls
invariant-calls g l = l.pass.lane ≡ l.initial.pass.lane

abbrev pub decreases-calls : goal.decreases-calls
decreases-calls g l = length l.pass.todo
