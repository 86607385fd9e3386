use Rattle.std.proofs.Common.{◌-◌, arith}
use Rattle.speed.proofs.tables.put.Goals as goal
use Rattle.speed.proofs.Below.{below_put}

-- src/tables.rt:95:1
pub returns : goal.returns
returns c = record {
  below = below_put c.insert.result c.args.number c.args.table.now (record { rows = 1; slots = 1; next_slot = 0; next_stamp = 0; numbers = 18446744073709551615 - 1 - c.from.result }) c.args.change.now _ _ (omega (arith, c.ranges.number.fits, c.from.ensures)) c.requires.below c.insert.ensures.ok c.insert.ensures.err;
}
