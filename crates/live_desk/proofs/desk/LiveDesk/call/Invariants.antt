use Rattle.std.proofs.Common.{◌≡◌}
use Rattle.live_desk.proofs.desk.LiveDesk.call.Given as goal

abbrev pub invariant-loop : goal.invariant-loop
invariant-loop g l = l.pass ≡ l.initial.pass
