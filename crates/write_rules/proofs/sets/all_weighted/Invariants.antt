use Rattle.std.proofs.Common.{◌≡◌, drop}
use Rattle.std.specs.List.{list_all}
use Rattle.plane_spec.specs.UpdateRules.{is_weight}
use Rattle.write_rules.proofs.sets.all_weighted.Given as goal

abbrev pub invariant-loop-action : goal.invariant-loop-action
invariant-loop-action l = list_all (λ action. is_weight action.weight) (drop l.action-index l.list) ≡ list_all (λ action. is_weight action.weight) l.list
