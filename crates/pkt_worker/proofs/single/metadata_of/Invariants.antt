use Rattle.std.proofs.Common.{◌≡◌, map, take}
use Rattle.pkt_worker.specs.Verdicts.{carried}
use Rattle.pkt_worker.proofs.single.metadata_of.Given as goal

abbrev pub invariant-loop-datum : goal.invariant-loop-datum
invariant-loop-datum l = l.list ≡ map carried (take l.datum-index l.numbers)
