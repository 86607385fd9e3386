use Rattle.std.proofs.Common.{length}
use Rattle.match_index.proofs.cuts.+name_print_from.Given as goal

abbrev pub decreases-name_print_from : goal.decreases-name_print_from
decreases-name_print_from l = length l.tests.now
