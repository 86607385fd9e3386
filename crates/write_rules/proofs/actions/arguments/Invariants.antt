use Rattle.std.proofs.Common.{◌≡◌, ◌≤◌, ◌++◌, drop, map, length}
use Rattle.plane_spec.specs.UpdateRules.{argument_of, number_in}
use Rattle.write_rules.proofs.actions.arguments.Given as goal

abbrev pub invariant-loop-param : goal.invariant-loop-param
invariant-loop-param l =
    (l.arguments ++ map (λ param. number_in param.bitwidth (argument_of l.given param.id)) (drop l.param-index l.params)
    ≡ map (λ param. number_in param.bitwidth (argument_of l.given param.id)) l.params)
    × (length l.arguments ≤ l.param-index)
