use Rattle.std.proofs.Common.{◌≡◌, ◌==◌, drop, map}
use Rattle.std.specs.List.{list_any, list_all}
use Rattle.write_rules.proofs.actions.all_given.Given as goal

abbrev pub invariant-loop-param : goal.invariant-loop-param
invariant-loop-param l = list_all (λ param. list_any (λ id. id == param.id) (map (λ argument. argument.param_id) l.arguments)) (drop l.param-index l.params) ≡ list_all (λ param. list_any (λ id. id == param.id) (map (λ argument. argument.param_id) l.arguments)) l.params
