use Rattle.std.proofs.Common.{length}
use Rattle.write_rules.proofs.matches.+name_twice.Given as goal

abbrev pub decreases-name_twice : goal.decreases-name_twice
decreases-name_twice l = length l.matches.now
