use Rattle.std.proofs.Common.{◌≡◌, drop}
use Rattle.plane_spec.specs.UpdateRules.{argument_of}
use Rattle.write_rules.proofs.actions.argument_of.Given as goal

abbrev pub invariant-loop-argument : goal.invariant-loop-argument
invariant-loop-argument l = argument_of (drop l.argument-index l.arguments) l.id ≡ argument_of l.arguments l.id
