use Rattle.std.proofs.Common.{ap, take, length, length-append, arith}
use Rattle.std.specs.List.{flat_map}
use Rattle.std.proofs.lemmas.List.Folds.{length-flat_map-take}
use Rattle.act_exec.specs.declared.marks.Count.{Count}
use Rattle.packet_spec.specs.Meaning.{Verdict}
use Rattle.packet_spec.specs.Walking.{cell_hit}
use Rattle.pkt_worker.specs.Hits.{counted_by}
use Rattle.pkt_worker.proofs.walk.hit_cells.Goals as goal

pub hit_cell-requires-clause-room : goal.hit_cell-requires-clause-room
hit_cell-requires-clause-room c =
    let f = λ (count : Count). cell_hit c.args.plane.now.now (counted_by count) in
    let i = c.loop-count.count-index in
    omega (
      arith,
      ap (λ (v : Verdict). length v.hits) c.loop-count.invariant,
      length-append c.args.out.now.hits (flat_map f (take i c.args.counts.now)),
      length-flat_map-take f c.args.counts.now i (record { counter = 0; index = 0 }) (omega arith),
      c.requires.room,
    )
