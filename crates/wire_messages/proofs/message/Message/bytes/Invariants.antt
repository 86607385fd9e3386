use Rattle.std.proofs.Common.{◌≡◌, length}
use Rattle.wire_messages.specs.Message.{bytes_of, bytes_at}
use Rattle.wire_messages.specs.Scans.{last_from}
use Rattle.wire_messages.proofs.message.Message.bytes.Given as goal

abbrev pub invariant-fields : goal.invariant-fields
invariant-fields l = last_from bytes_of l.number l.value l.left ≡ bytes_at l.number l.self

abbrev pub decreases-fields : goal.decreases-fields
decreases-fields l = length l.left
