use Rattle.std.proofs.Common.{◌≡◌, length}
use Rattle.wire_messages.specs.Message.{number_at, int32_at}
use Rattle.wire_messages.specs.Numbers.{as_int32}
use Rattle.wire_messages.proofs.message.Message.int32.Given as goal

abbrev pub invariant-fields : goal.invariant-fields
invariant-fields l = number_at as_int32 l.value l.number l.left ≡ int32_at l.number l.self

abbrev pub decreases-fields : goal.decreases-fields
decreases-fields l = length l.left
