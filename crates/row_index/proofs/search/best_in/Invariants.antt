use Rattle.std.proofs.Common.{◌≡◌, ℕ, ◌<◌, ◌≤◌, ◌-◌, true, IfSome}
use Rattle.row_index.specs.Places.{in_bucket}
use Rattle.row_index.specs.Best.{IsHit, IsCovered}
use Rattle.row_index.specs.Search.{IsOffered, IsLinked}
use Rattle.row_index.proofs.search.best_in.Given as goal

abbrev pub invariant-loop-end : goal.invariant-loop-end
invariant-loop-end g l = record {
  here : 0 < l.end → in_bucket l.chains.places l.bucket (l.end - 1) ≡ true;
  hit : IfSome l.best (IsHit (g.R.Rows.entry l.rows) l.table l.key);
  walked : (other : ℕ) → l.end ≤ other → IsOffered l.chains.places l.shape l.print other → IsCovered (g.R.Rows.entry l.rows) l.table l.key l.best other;
  kept : (other : ℕ) → IsCovered (g.R.Rows.entry l.rows) l.table l.key l.fn.best other → IsCovered (g.R.Rows.entry l.rows) l.table l.key l.best other;
  linked : IfSome l.fn.best (IsLinked l.chains.places) → IfSome l.best (IsLinked l.chains.places);
}

abbrev pub decreases-loop-end : goal.decreases-loop-end
decreases-loop-end g l = l.end
