use Rattle.std.proofs.Common.{◌≡◌}
use Rattle.live_desk.proofs.Asking.{refused_so}
use Rattle.live_desk.proofs.running.run_at_last.Given as goal

abbrev pub invariant-loop : goal.invariant-loop
invariant-loop g l = l.worker ≡ refused_so l.initial.worker l.worker.refusals
