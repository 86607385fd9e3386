use Rattle.std.proofs.Common.{◌≡◌, ◌==◌, drop, map}
use Rattle.std.specs.List.{list_any}
use Rattle.write_rules.proofs.groups.names.Given as goal

abbrev pub invariant-loop-member : goal.invariant-loop-member
invariant-loop-member l = list_any (λ named. named == l.id) (map (λ member. member.member_id) (drop l.member-index l.members)) ≡ list_any (λ named. named == l.id) (map (λ member. member.member_id) l.members)
