use Rattle.std.proofs.Common.{length}
use Rattle.leaf_rows.proofs.wire.messages.Given as goal

abbrev pub decreases-messages : goal.decreases-messages
decreases-messages l = length l.left
