use Rattle.std.proofs.Common.{◌≡◌, ◌==◌, drop}
use Rattle.std.specs.List.{list_any}
use Rattle.write_rules.proofs.actions.has_param.Given as goal

abbrev pub invariant-loop-param : goal.invariant-loop-param
invariant-loop-param l = list_any (λ param. param.id == l.id) (drop l.param-index l.params) ≡ list_any (λ param. param.id == l.id) l.params
