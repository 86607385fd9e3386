use Rattle.std.proofs.Common.{◌≡◌}
use Rattle.pub_snap.specs.Snapshots.{all_of}
use Rattle.ctl_lock.proofs.finish.close.Given as goal

abbrev pub invariant-loop : goal.invariant-loop
invariant-loop g l = all_of l.line ≡ all_of l.initial.line
