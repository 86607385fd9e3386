use Rattle.std.proofs.Common.{◌≡◌, length}
use Rattle.wire_messages.specs.Message.{number_at, bool_at}
use Rattle.wire_messages.specs.Numbers.{as_bool}
use Rattle.wire_messages.proofs.message.Message.boolean.Given as goal

abbrev pub invariant-fields : goal.invariant-fields
invariant-fields l = number_at as_bool l.value l.number l.left ≡ bool_at l.number l.self

abbrev pub decreases-fields : goal.decreases-fields
decreases-fields l = length l.left
