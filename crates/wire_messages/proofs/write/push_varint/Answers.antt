use Rattle.std.proofs.Common.{arith}
use Rattle.wire_fields.proofs.Shortest.{goes_on, is_done}
use Rattle.wire_messages.proofs.write.push_varint.Goals as goal

pub loop-left-preserved : goal.loop-left-preserved
loop-left-preserved c = rw c.in_ok-push.ensures.items (goes_on _ _ _ _ (omega arith) c.loop-left.invariant)

pub returns : goal.returns
returns c = rw c.in_ok-push-2.ensures.items (is_done _ _ _ _ (omega arith) c.loop-left.invariant)
