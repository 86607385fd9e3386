use Rattle.std.proofs.Common.{length}
use Rattle.table_store.proofs.groups.+next.Given as goal

abbrev pub decreases-next : goal.decreases-next
decreases-next l = length l.groups.now
