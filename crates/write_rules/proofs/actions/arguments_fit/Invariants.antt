use Rattle.std.proofs.Common.{◌≡◌, drop}
use Rattle.plane_spec.specs.UpdateRules.{arguments_fit}
use Rattle.write_rules.proofs.actions.arguments_fit.Given as goal

abbrev pub invariant-loop-param : goal.invariant-loop-param
invariant-loop-param l = arguments_fit (drop l.param-index l.params) l.arguments ≡ arguments_fit l.params l.arguments
