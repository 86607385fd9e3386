use Rattle.std.proofs.Common.{◌≡◌, ◌==◌, drop, map}
use Rattle.std.specs.List.{list_any}
use Rattle.write_rules.proofs.actions.gives.Given as goal

abbrev pub invariant-loop-argument : goal.invariant-loop-argument
invariant-loop-argument l = list_any (λ given. given == l.id) (map (λ argument. argument.param_id) (drop l.argument-index l.arguments)) ≡ list_any (λ given. given == l.id) (map (λ argument. argument.param_id) l.arguments)
