use Rattle.std.proofs.Common.{◌-◌}
use Rattle.row_index.proofs.asks.+first_from.Given as goal

abbrev pub decreases-first_from : goal.decreases-first_from
decreases-first_from l = l.high - l.low
