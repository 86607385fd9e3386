use Rattle.std.proofs.Common.{length}
use Rattle.wire_messages.proofs.Walking.{Decides}
use Rattle.wire_messages.proofs.message.Message.read.Given as goal

abbrev pub invariant-loop : goal.invariant-loop
invariant-loop l = Decides l.bytes l.left

abbrev pub decreases-loop : goal.decreases-loop
decreases-loop l = length l.left
