use Rattle.std.proofs.Common.{◌≡◌, ◌||◌, drop}
use Rattle.std.specs.List.{list_any}
use Rattle.plane_spec.specs.UpdateRules.{is_ternary, is_range, is_optional, has_priorities}
use Rattle.write_rules.proofs.rules.has_priorities.Given as goal

abbrev pub invariant-loop-field : goal.invariant-loop-field
invariant-loop-field l =
    list_any (λ field. is_ternary field.kind || is_range field.kind || is_optional field.kind) (drop l.field-index l.field-items) ≡ has_priorities l.table
