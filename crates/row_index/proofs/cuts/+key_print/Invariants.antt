use Rattle.std.proofs.Common.{length}
use Rattle.row_index.proofs.cuts.+key_print.Given as goal

abbrev pub decreases-key_print : goal.decreases-key_print
decreases-key_print l = length l.tests.now
