use Rattle.std.proofs.Common.{length}
use Rattle.hpack_tables.proofs.Evictions.{AreLeft}
use Rattle.hpack_tables.proofs.table.evict.Given as goal

abbrev pub invariant-loop-size : goal.invariant-loop-size
invariant-loop-size l = AreLeft l.room l.fn.entries.items l.entries.items l.size

abbrev pub decreases-loop-size : goal.decreases-loop-size
decreases-loop-size l = length l.entries.items
