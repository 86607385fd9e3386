use Rattle.std.proofs.Common.{length}
use Rattle.row_index.proofs.cuts.+name_print.Given as goal

abbrev pub decreases-name_print : goal.decreases-name_print
decreases-name_print l = length l.tests.now
