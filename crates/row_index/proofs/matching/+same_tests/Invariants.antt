use Rattle.std.proofs.Common.{length}
use Rattle.row_index.proofs.matching.+same_tests.Given as goal

abbrev pub decreases-same_tests : goal.decreases-same_tests
decreases-same_tests l = length l.a.now
