use Rattle.std.specs.Option.{option_map}
use Rattle.std.proofs.Common.{◌≡◌, length}
use Rattle.wire_messages.specs.Message.{bytes_of, message_at}
use Rattle.wire_messages.specs.Scans.{one_from}
use Rattle.wire_messages.proofs.message.Message.message.Given as goal

abbrev pub invariant-fields : goal.invariant-fields
invariant-fields l = one_from bytes_of l.number (option_map (λ x. x.now) l.value) l.left ≡ message_at l.number l.self

abbrev pub decreases-fields : goal.decreases-fields
decreases-fields l = length l.left
