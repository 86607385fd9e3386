use Rattle.std.proofs.Common.{◌≡◌, drop}
use Rattle.std.specs.List.{list_any}
use Rattle.plane_spec.specs.UpdateRules.{is_watched}
use Rattle.write_rules.proofs.sets.any_watched.Given as goal

abbrev pub invariant-loop-action : goal.invariant-loop-action
invariant-loop-action l = list_any (λ action. is_watched action.watch action.watch_port) (drop l.action-index l.list) ≡ list_any (λ action. is_watched action.watch action.watch_port) l.list
