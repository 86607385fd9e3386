use Rattle.std.proofs.Common.{length}
use Rattle.row_index.proofs.matching.+prefix_length.Given as goal

abbrev pub decreases-prefix_length : goal.decreases-prefix_length
decreases-prefix_length l = length l.tests.now
