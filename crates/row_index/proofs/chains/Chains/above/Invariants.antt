use Rattle.std.proofs.Common.{◌≡◌, length}
use Rattle.row_index.specs.Reach.{reach}
use Rattle.row_index.specs.Places.{in_bucket}
use Rattle.row_index.specs.Aims.{bound, IsHigher}
use Rattle.row_index.proofs.chains.Chains.above.Given as goal

abbrev pub invariant-loop-end : goal.invariant-loop-end
invariant-loop-end l = record {
  end : l.end ≡ reach (in_bucket l.self.places l.bucket) (bound l.above (length l.self.places));
  higher : IsHigher (in_bucket l.self.places l.bucket) (length l.self.places) l.place l.above;
}

abbrev pub decreases-loop-end : goal.decreases-loop-end
decreases-loop-end l = l.end
