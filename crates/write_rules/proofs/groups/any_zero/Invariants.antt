use Rattle.std.proofs.Common.{◌≡◌, ◌==◌, drop}
use Rattle.std.specs.List.{list_any}
use Rattle.write_rules.proofs.groups.any_zero.Given as goal

abbrev pub invariant-loop-member : goal.invariant-loop-member
invariant-loop-member l = list_any (λ member. member.member_id == 0) (drop l.member-index l.members) ≡ list_any (λ member. member.member_id == 0) l.members
