-- What nodes do, as the definitions have it.
use Rattle.std.specs.Prelude.{List, ◌++◌, Option}
use Rattle.std.specs.List.{flat_map}
use Rattle.act_exec.specs.Marks.{Marked}
use Rattle.bm_expr.specs.Store.{Contents}
use Rattle.p4_types.specs.declared.records.HitMark.{HitMark}
use Rattle.p4_types.specs.declared.table.Entry.{Entry}
use Rattle.packet_spec.specs.Walking as walking
use Rattle.plane_spec.specs.Planes.{Plane}

-- a walk that stands at this store and these marks, and hit this so far
abbrev pub walk_at : Contents → Marked → List HitMark → walking.Walk
walk_at store marks hits = record { store = store; learned = marks.learned; hits = hits }

-- the walk behind a node at which an entry was taken and these marks were left
abbrev pub walk_behind : Plane → Contents → Marked → Option Entry → List HitMark → walking.Walk
walk_behind plane store marks entry hits = walk_at store marks (hits ++ walking.entry_hit entry ++ flat_map (walking.cell_hit plane) marks.counted)
