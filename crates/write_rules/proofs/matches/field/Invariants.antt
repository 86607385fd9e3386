use Rattle.std.proofs.Common.{◌≡◌, ◌==◌, drop, find}
use Rattle.plane_spec.specs.Objects.{field_of}
use Rattle.write_rules.proofs.matches.field.Given as goal

abbrev pub invariant-loop-field : goal.invariant-loop-field
invariant-loop-field l = find (λ field. field.id == l.id) (drop l.field-index l.field-items) ≡ field_of l.id l.table
