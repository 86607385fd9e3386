use Rattle.std.proofs.Common.{◌≡◌, ◌+◌, take, sum_by}
use Rattle.plane_image.proofs.pipelines.has_more_cells.Given as goal

abbrev pub invariant-loop-counter : goal.invariant-loop-counter
invariant-loop-counter l = (l.left + sum_by (λ counter. counter.size) (take l.counter-index l.counter-items) ≡ l.fn.room) × (l.counter-items ≡ l.fn.config.info.counters)
