use Rattle.std.proofs.Common.{length}
use Rattle.match_index.proofs.cuts.+has_cuts.Given as goal

abbrev pub decreases-has_cuts : goal.decreases-has_cuts
decreases-has_cuts l = length l.cuts.now
