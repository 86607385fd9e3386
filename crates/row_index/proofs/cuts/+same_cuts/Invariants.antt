use Rattle.std.proofs.Common.{length}
use Rattle.row_index.proofs.cuts.+same_cuts.Given as goal

abbrev pub decreases-same_cuts : goal.decreases-same_cuts
decreases-same_cuts l = length l.a.now
