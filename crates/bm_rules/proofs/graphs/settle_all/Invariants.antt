use Rattle.bm_rules.specs.Peeling.{NoLong}
use Rattle.bm_rules.proofs.graphs.settle_all.Given as goal

abbrev pub invariant-tries : goal.invariant-tries
invariant-tries l = NoLong l.edges l.initial.peeled → NoLong l.edges l.peeled
