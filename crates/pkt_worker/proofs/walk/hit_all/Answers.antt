use Rattle.std.proofs.Common.{◌++◌, ap, length, length-append, arith}
use Rattle.std.specs.Option.{option_map}
use Rattle.std.specs.List.{flat_map}
use Rattle.packet_spec.specs.Meaning.{Verdict}
use Rattle.packet_spec.specs.Walking.{cell_hit, entry_hit}
use Rattle.pkt_worker.proofs.walk.hit_all.Goals as goal

pub hit_counts-requires-clause-room : goal.hit_counts-requires-clause-room
hit_counts-requires-clause-room c =
    let entry = entry_hit (option_map (λ e. e.now) c.args.entry) in
    let hits = c.args.out.now.hits in
    omega (
      arith,
      ap (λ (v : Verdict). length v.hits) c.hit_entry.ensures,
      length-append (hits ++ entry) (flat_map (cell_hit c.args.plane.now.now) c.args.marks.now.counted),
      length-append hits entry,
      c.requires.room,
    )
