use Rattle.std.proofs.Common.{◌≡◌}
use Rattle.live_desk.proofs.running.keep_outputs.Given as goal

abbrev pub invariant-loop : goal.invariant-loop
invariant-loop g l = l.waiting.items ≡ l.initial.waiting.items
