use Rattle.std.proofs.Common.{◌≡◌, ◌≤◌, ◌++◌, drop, length}
use Rattle.write_rules.proofs.multicast.replicas_by.Given as goal

abbrev pub invariant-loop-replica : goal.invariant-loop-replica
invariant-loop-replica l = (l.kept ++ drop l.replica-index l.replicas ≡ l.replicas) × (length l.kept ≤ l.replica-index)
