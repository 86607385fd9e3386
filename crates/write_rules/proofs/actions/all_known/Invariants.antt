use Rattle.std.proofs.Common.{◌≡◌, ◌==◌, drop, map}
use Rattle.std.specs.List.{list_any, list_all}
use Rattle.write_rules.proofs.actions.all_known.Given as goal

abbrev pub invariant-loop-argument : goal.invariant-loop-argument
invariant-loop-argument l = list_all (λ id. list_any (λ param. param.id == id) l.params) (map (λ argument. argument.param_id) (drop l.argument-index l.arguments)) ≡ list_all (λ id. list_any (λ param. param.id == id) l.params) (map (λ argument. argument.param_id) l.arguments)
