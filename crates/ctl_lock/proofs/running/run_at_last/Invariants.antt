use Rattle.std.proofs.Common.{◌≡◌}
use Rattle.ctl_lock.proofs.running.run_at_last.Given as goal

abbrev pub invariant-loop : goal.invariant-loop
invariant-loop g l = l.work ≡ record l.initial.work { refusals = l.work.refusals }
