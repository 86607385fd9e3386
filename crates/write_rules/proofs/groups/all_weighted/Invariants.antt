use Rattle.std.proofs.Common.{◌≡◌, drop}
use Rattle.std.specs.List.{list_all}
use Rattle.plane_spec.specs.UpdateRules.{is_weight}
use Rattle.write_rules.proofs.groups.all_weighted.Given as goal

abbrev pub invariant-loop-member : goal.invariant-loop-member
invariant-loop-member l = list_all (λ member. is_weight member.weight) (drop l.member-index l.members) ≡ list_all (λ member. is_weight member.weight) l.members
