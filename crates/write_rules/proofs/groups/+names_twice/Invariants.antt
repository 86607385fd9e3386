use Rattle.std.proofs.Common.{length}
use Rattle.write_rules.proofs.groups.+names_twice.Given as goal

abbrev pub decreases-names_twice : goal.decreases-names_twice
decreases-names_twice l = length l.members.now
