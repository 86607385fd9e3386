use Rattle.std.proofs.Common.{◌≡◌, length}
use Rattle.wire_messages.specs.Message.{number_at, uint64_at}
use Rattle.wire_messages.specs.Numbers.{as_uint64}
use Rattle.wire_messages.proofs.message.Message.uint64.Given as goal

abbrev pub invariant-fields : goal.invariant-fields
invariant-fields l = number_at as_uint64 l.value l.number l.left ≡ uint64_at l.number l.self

abbrev pub decreases-fields : goal.decreases-fields
decreases-fields l = length l.left
