use Rattle.std.proofs.Common.{length}
use Rattle.write_rules.proofs.actions.+gives_twice.Given as goal

abbrev pub decreases-gives_twice : goal.decreases-gives_twice
decreases-gives_twice l = length l.arguments.now
