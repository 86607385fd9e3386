use Rattle.std.proofs.Common.{◌≡◌, drop}
use Rattle.std.specs.List.{list_any}
use Rattle.plane_spec.specs.UpdateRules.{is_watched}
use Rattle.write_rules.proofs.groups.any_watched.Given as goal

abbrev pub invariant-loop-member : goal.invariant-loop-member
invariant-loop-member l = list_any (λ member. is_watched member.watch member.watch_port) (drop l.member-index l.members) ≡ list_any (λ member. is_watched member.watch member.watch_port) l.members
