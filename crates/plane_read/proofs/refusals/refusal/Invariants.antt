use Rattle.std.proofs.Common.{◌≡◌, drop, map}
use Rattle.switch_spec.specs.Reading.{entity_refusal, first_of}
use Rattle.plane_read.proofs.refusals.refusal.Given as goal

abbrev pub invariant-loop-entity : goal.invariant-loop-entity
invariant-loop-entity l = first_of (map (entity_refusal l.info) (drop l.entity-index l.entities)) ≡ first_of (map (entity_refusal l.info) l.entities)
