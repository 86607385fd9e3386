use Rattle.wire_fields.proofs.Shortest.{IsWriting}
use Rattle.wire_messages.proofs.write.push_varint.Given as goal

abbrev pub invariant-loop-left : goal.invariant-loop-left
invariant-loop-left l = IsWriting l.fn.bytes.items l.value l.bytes.items l.left

abbrev pub decreases-loop-left : goal.decreases-loop-left
decreases-loop-left l = l.left
