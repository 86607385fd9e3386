use Rattle.std.proofs.Common.{◌≡◌, take, sum_by}
use Rattle.plane_image.proofs.pipelines.cells_in.Given as goal

abbrev pub invariant-loop-counter : goal.invariant-loop-counter
invariant-loop-counter l = (l.cells ≡ sum_by (λ counter. counter.size) (take l.counter-index l.counter-items)) × (l.counter-items ≡ l.config.info.counters)
