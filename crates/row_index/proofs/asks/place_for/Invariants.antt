use Rattle.std.proofs.Common.{◌≡◌, ℕ, ◌<◌, false, get_or}
use Rattle.row_index.specs.declared.asks.Ask.{Ask}
use Rattle.row_index.specs.Asks.{is_before}
use Rattle.row_index.proofs.asks.place_for.Given as goal

abbrev pub invariant-loop-place : goal.invariant-loop-place
invariant-loop-place l = (k : ℕ) (d : Ask) → k < l.place → is_before l.ask (get_or l.asks k d) ≡ false
