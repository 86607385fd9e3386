use Rattle.std.proofs.Common.{◌≡◌, ℕ, ◌<◌, ◌≤◌, ◌-◌, true}
use Rattle.row_index.specs.Places.{in_bucket}
use Rattle.row_index.specs.Search.{IsOffered, IsOther}
use Rattle.row_index.proofs.naming.named_in.Given as goal

abbrev pub invariant-loop-end : goal.invariant-loop-end
invariant-loop-end g l = record {
  here : 0 < l.end → in_bucket l.chains.places l.bucket (l.end - 1) ≡ true;
  walked : (other : ℕ) → l.end ≤ other → IsOffered l.chains.places l.shape l.print other → IsOther (g.R.Rows.entry l.rows) l.name other;
}

abbrev pub decreases-loop-end : goal.decreases-loop-end
decreases-loop-end g l = l.end
