use Rattle.std.proofs.Common.{◌≤◌, ◌+◌, ◌∙◌, ◌++◌, List, ap, length, arith}
use Rattle.std.specs.List.{flat_map}
use Rattle.p4_types.specs.declared.records.HitMark.{HitMark}
use Rattle.packet_spec.specs.Walking.{cell_hit}
use Rattle.pkt_worker.specs.Hits.{counted_by}
use Rattle.pkt_worker.proofs.Samples.{cells_as}
use Rattle.pkt_worker.proofs.walk.hit_counts.Goals as goal

pub hit_cells-requires-clause-room : goal.hit_cells-requires-clause-room
hit_cells-requires-clause-room c =
    let same = cells_as c.args.plane.now.now c.counts.result.now c.args.marks.now.counted c.counts.ensures in
    let within : length c.args.out.now.hits + length (flat_map (λ count. cell_hit c.args.plane.now.now (counted_by count)) c.counts.result.now) ≤ 274560 =
    omega (arith, ap length same, c.requires.room) in
    within

pub returns : goal.returns
returns c =
    let same = cells_as c.args.plane.now.now c.counts.result.now c.args.marks.now.counted c.counts.ensures in
    c.hit_cells.ensures ∙ ap (λ (cells : List HitMark). record c.args.out.now { hits = c.args.out.now.hits ++ cells }) same
