use Rattle.std.proofs.Common.{◌-◌, length}
use Rattle.bm_rules.specs.Peeling.{peeled_count, NoLong}
use Rattle.bm_rules.proofs.graphs.peel_all.Given as goal

abbrev pub invariant-rounds : goal.invariant-rounds
invariant-rounds l = NoLong l.edges l.initial.peeled → NoLong l.edges l.peeled

abbrev pub decreases-rounds : goal.decreases-rounds
decreases-rounds l = length l.peeled - peeled_count l.peeled
