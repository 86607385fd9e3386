use Rattle.std.proofs.Common.{◌≡◌, ℕ, ◌<◌, ◌≤◌, Some}
use Rattle.std.specs.Prelude.{slice_get}
use Rattle.row_index.specs.declared.asks.Ask.{Ask}
use Rattle.row_index.specs.Search.{IsOfShape, IsOther}
use Rattle.row_index.proofs.naming.named.Given as goal

abbrev pub invariant-loop-place : goal.invariant-loop-place
invariant-loop-place g l =
    (k : ℕ) (ask : Ask) → l.start ≤ k → k < l.place → slice_get l.shapes.asks.items k ≡ Some ask → (other : ℕ) → IsOfShape l.chains.places ask.shape other → IsOther (g.R.Rows.entry l.rows) l.name other
