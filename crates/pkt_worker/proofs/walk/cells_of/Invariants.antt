use Rattle.std.proofs.Common.{◌≡◌, take}
use Rattle.std.specs.List.{sum_by}
use Rattle.pkt_worker.proofs.walk.cells_of.Given as goal

abbrev pub invariant-loop-counter : goal.invariant-loop-counter
invariant-loop-counter l = l.cells ≡ sum_by (λ counter. counter.size) (take l.counter-index l.counters)
