use Rattle.std.proofs.Common.{◌≡◌, drop}
use Rattle.std.specs.List.{list_all}
use Rattle.plane_spec.specs.Multicast.{is_replica}
use Rattle.write_rules.proofs.multicast.all_in_range.Given as goal

abbrev pub invariant-loop-replica : goal.invariant-loop-replica
invariant-loop-replica l = list_all is_replica (drop l.replica-index l.replicas) ≡ list_all is_replica l.replicas
