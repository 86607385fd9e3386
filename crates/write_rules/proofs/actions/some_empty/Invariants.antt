use Rattle.std.proofs.Common.{◌≡◌, drop}
use Rattle.std.specs.List.{list_any}
use Rattle.plane_spec.specs.UpdateRules.{is_empty}
use Rattle.write_rules.proofs.actions.some_empty.Given as goal

abbrev pub invariant-loop-argument : goal.invariant-loop-argument
invariant-loop-argument l = list_any (λ argument. is_empty argument.value) (drop l.argument-index l.arguments) ≡ list_any (λ argument. is_empty argument.value) l.arguments
