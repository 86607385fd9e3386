use Rattle.std.proofs.Common.{◌≡◌, length}
use Rattle.wire_messages.specs.Message.{given}
use Rattle.wire_messages.proofs.messages.Messages.next.Given as goal

abbrev pub invariant-fields : goal.invariant-fields
invariant-fields l =
    (l.self-inside.number ≡ l.initial.self-inside.number)
    × (given l.self-inside.number l.initial.self-inside.left ≡ given l.self-inside.number l.self-inside.left)

abbrev pub decreases-fields : goal.decreases-fields
decreases-fields l = length l.self-inside.left
