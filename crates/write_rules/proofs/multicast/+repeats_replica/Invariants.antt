use Rattle.std.proofs.Common.{length}
use Rattle.write_rules.proofs.multicast.+repeats_replica.Given as goal

abbrev pub decreases-repeats_replica : goal.decreases-repeats_replica
decreases-repeats_replica l = length l.replicas.now
