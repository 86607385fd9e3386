use Rattle.std.proofs.Common.{◌+◌, ◌-◌, ◌/◌, arith}
use Rattle.row_index.proofs.Asking.{around_right, around_left}
use Rattle.row_index.proofs.asks.+first_from.Goals as goal

pub first_from-requires : goal.first_from-requires
first_from-requires t c = (
  omega arith,
  (
    c.requires.order,
    around_right c.args.asks.now c.args.table c.args.low c.args.high (c.args.low + (c.args.high - c.args.low) / 2) _ c.requires.order c.requires.around (omega arith) c.if-ask-table.true,
  ),
)

pub first_from-requires-else-ask-table : goal.first_from-requires-else-ask-table
first_from-requires-else-ask-table t c = (
  omega arith,
  (
    c.requires.order,
    around_left c.args.asks.now c.args.table c.args.low c.args.high (c.args.low + (c.args.high - c.args.low) / 2) _ c.requires.order c.requires.around (omega arith) (omega arith) c.if-ask-table.false,
  ),
)
