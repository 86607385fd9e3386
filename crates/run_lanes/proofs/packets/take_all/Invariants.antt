use Rattle.std.proofs.Common.{◌≡◌, length}
use Rattle.run_lanes.proofs.packets.take_all.Given as goal

abbrev pub invariant-items : goal.invariant-items
invariant-items g l = l.pass.lane ≡ l.initial.pass.lane

abbrev pub decreases-items : goal.decreases-items
decreases-items g l = length l.pass.todo
