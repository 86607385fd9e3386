use Rattle.std.proofs.Common.{◌≡◌, ◌++◌, drop}
use Rattle.std.specs.List.{flat_map}
use Rattle.switch_spec.specs.Reading.{selected}
use Rattle.plane_read.proofs.reading.selected.Given as goal

abbrev pub invariant-loop-entity : goal.invariant-loop-entity
invariant-loop-entity g l = l.answer ++ flat_map (selected (g.C.Counts.figures l.counts) l.plane.now) (drop l.entity-index l.entities) ≡ flat_map (selected (g.C.Counts.figures l.counts) l.plane.now) l.entities
