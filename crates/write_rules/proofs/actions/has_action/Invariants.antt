use Rattle.std.proofs.Common.{◌≡◌, ◌==◌, ◌&&◌, drop}
use Rattle.std.specs.List.{list_any}
use Rattle.plane_spec.specs.UpdateRules.{is_allowed, has_action}
use Rattle.write_rules.proofs.actions.has_action.Given as goal

abbrev pub invariant-loop-reference : goal.invariant-loop-reference
invariant-loop-reference l = list_any (λ ref. (ref.id == l.id) && is_allowed l.default ref.scope) (drop l.reference-index l.reference-items) ≡ has_action l.table l.default l.id
