use Rattle.std.proofs.Common.{◌≡◌, length}
use Rattle.wire_messages.specs.Message.{only_known}
use Rattle.wire_messages.proofs.message.Message.has_only.Given as goal

abbrev pub invariant-fields : goal.invariant-fields
invariant-fields l = only_known l.known l.left ≡ only_known l.known l.self

abbrev pub decreases-fields : goal.decreases-fields
decreases-fields l = length l.left
