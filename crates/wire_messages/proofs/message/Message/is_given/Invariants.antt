use Rattle.std.proofs.Common.{◌≡◌, length}
use Rattle.wire_messages.specs.Message.{is_given}
use Rattle.wire_messages.proofs.message.Message.is_given.Given as goal

abbrev pub invariant-fields : goal.invariant-fields
invariant-fields l = is_given l.number l.left ≡ is_given l.number l.self

abbrev pub decreases-fields : goal.decreases-fields
decreases-fields l = length l.left
