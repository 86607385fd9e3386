use Rattle.std.proofs.Common.{◌≡◌, ◌++◌, drop, map}
use Rattle.plane_spec.specs.ProfileRules.{share_by}
use Rattle.write_rules.proofs.groups.shares_by.Given as goal

abbrev pub invariant-loop-member : goal.invariant-loop-member
invariant-loop-member l = l.shares ++ map share_by (drop l.member-index l.members) ≡ map share_by l.members
