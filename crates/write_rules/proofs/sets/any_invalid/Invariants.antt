use Rattle.std.proofs.Common.{◌≡◌, drop}
use Rattle.std.specs.List.{list_any}
use Rattle.plane_spec.specs.UpdateRules.{is_invalid, profile_call_flaw}
use Rattle.write_rules.proofs.sets.any_invalid.Given as goal

abbrev pub invariant-loop-action : goal.invariant-loop-action
invariant-loop-action l = list_any (λ action. is_invalid (profile_call_flaw l.info l.profile action.action)) (drop l.action-index l.list) ≡ list_any (λ action. is_invalid (profile_call_flaw l.info l.profile action.action)) l.list
