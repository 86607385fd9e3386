-- What a node hits, as the code has it.
use Rattle.std.specs.Prelude.{List, ◌++◌, Option}
use Rattle.std.specs.List.{flat_map}
use Rattle.act_exec.specs.declared.marks.Count.{Count}
use Rattle.act_exec.specs.Marks.{Marked}
use Rattle.p4_types.specs.declared.records.HitMark.{HitMark}
use Rattle.p4_types.specs.declared.table.Entry.{Entry}
use Rattle.packet_spec.specs.Walking.{entry_hit, cell_hit}
use Rattle.plane_spec.specs.Planes.{Plane}
use Rattle.program_spec.specs.Actions.{Counted}

-- a count, as the definitions have it
abbrev pub counted_by : Count → Counted
counted_by count = record { counter = count.counter; index = count.index }

-- the hits behind a node at which an entry was taken and these marks were left
abbrev pub hits_behind : Plane → Option Entry → Marked → List HitMark → List HitMark
hits_behind plane entry marks hits = hits ++ entry_hit entry ++ flat_map (cell_hit plane) marks.counted
