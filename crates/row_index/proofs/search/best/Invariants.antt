use Rattle.std.proofs.Common.{◌≡◌, ℕ, ◌<◌, ◌≤◌, Some, IfSome}
use Rattle.std.specs.Prelude.{slice_get}
use Rattle.row_index.specs.declared.asks.Ask.{Ask}
use Rattle.row_index.specs.Best.{IsHit, IsCovered}
use Rattle.row_index.specs.Search.{IsOfShape, IsLinked}
use Rattle.row_index.proofs.search.best.Given as goal

abbrev pub invariant-loop-place : goal.invariant-loop-place
invariant-loop-place g l = record {
  hit : IfSome l.found (IsHit (g.R.Rows.entry l.rows) l.table l.key);
  linked : IfSome l.found (IsLinked l.chains.places);
  covered : (k : ℕ) (ask : Ask) → l.start ≤ k → k < l.place → slice_get l.shapes.asks.items k ≡ Some ask → (other : ℕ) → IsOfShape l.chains.places ask.shape other → IsCovered (g.R.Rows.entry l.rows) l.table l.key l.found other;
}
