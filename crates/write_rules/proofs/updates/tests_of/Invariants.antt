use Rattle.std.proofs.Common.{◌≡◌, ◌≤◌, ◌++◌, drop, map, length}
use Rattle.plane_spec.specs.UpdateRules.{asked_of, test_by}
use Rattle.write_rules.proofs.updates.tests_of.Given as goal

abbrev pub invariant-loop-field : goal.invariant-loop-field
invariant-loop-field l =
    (l.tests ++ map (λ field. test_by field.bitwidth (asked_of field.id l.entry.matches)) (drop l.field-index l.field-items)
    ≡ map (λ field. test_by field.bitwidth (asked_of field.id l.entry.matches)) l.table.match_fields)
    × (length l.tests ≤ l.field-index)
