use Rattle.std.proofs.Common.{◌≡◌, ◌==◌, ◌&&◌, not, drop, map}
use Rattle.std.specs.List.{list_any}
use Rattle.plane_spec.specs.UpdateRules.{is_exact}
use Rattle.write_rules.proofs.matches.miss_exact.Given as goal

abbrev pub invariant-loop-field : goal.invariant-loop-field
invariant-loop-field l = list_any (λ field. is_exact field.kind && not (list_any (λ id. id == field.id) (map (λ asked. asked.field_id) l.matches))) (drop l.field-index l.field-items) ≡ list_any (λ field. is_exact field.kind && not (list_any (λ id. id == field.id) (map (λ asked. asked.field_id) l.matches))) l.table.match_fields
