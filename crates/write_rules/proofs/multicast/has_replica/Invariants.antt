use Rattle.std.proofs.Common.{◌≡◌, drop}
use Rattle.std.specs.List.{list_any}
use Rattle.plane_spec.specs.Multicast.{same_replica}
use Rattle.write_rules.proofs.multicast.has_replica.Given as goal

abbrev pub invariant-loop-other : goal.invariant-loop-other
invariant-loop-other l = list_any (same_replica l.replica) (drop l.other-index l.replicas) ≡ list_any (same_replica l.replica) l.replicas
