use Rattle.std.proofs.Common.{◌≡◌, ◌++◌, take}
use Rattle.std.specs.List.{flat_map}
use Rattle.packet_spec.specs.Walking.{cell_hit}
use Rattle.pkt_worker.specs.Hits.{counted_by}
use Rattle.pkt_worker.proofs.walk.hit_cells.Given as goal

abbrev pub invariant-loop-count : goal.invariant-loop-count
invariant-loop-count l = l.out ≡ record l.initial.out { hits = l.initial.out.hits ++ flat_map (λ count. cell_hit l.plane.now (counted_by count)) (take l.count-index l.counts) }
