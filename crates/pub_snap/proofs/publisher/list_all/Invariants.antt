use Rattle.std.proofs.Common.{◌≡◌, drop, length}
use Rattle.pub_snap.proofs.Seeing.{AreLeft}
use Rattle.pub_snap.proofs.publisher.list_all.Given as goal

abbrev pub invariant-events : goal.invariant-events
invariant-events g l = (l.writer.desk ≡ l.initial.writer.desk) × AreLeft l.initial.told l.told l.initial.pending.items l.pending.items (drop l.writer.behind l.writer.log.items)

abbrev pub decreases-events : goal.decreases-events
decreases-events g l = length l.pending.items
