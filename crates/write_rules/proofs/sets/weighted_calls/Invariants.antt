use Rattle.std.proofs.Common.{◌≡◌, ◌++◌, drop, map}
use Rattle.plane_spec.specs.UpdateRules.{weighted_call}
use Rattle.write_rules.proofs.sets.weighted_calls.Given as goal

abbrev pub invariant-loop-action : goal.invariant-loop-action
invariant-loop-action l = l.calls ++ map (weighted_call l.info) (drop l.action-index l.list) ≡ map (weighted_call l.info) l.list
