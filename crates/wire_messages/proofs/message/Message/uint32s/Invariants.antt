use Rattle.std.proofs.Common.{◌≡◌, true, length}
use Rattle.wire_messages.specs.Answers.{first_number_is_read}
use Rattle.wire_messages.specs.Message.{given, uint32s_at}
use Rattle.wire_messages.specs.Scans.{numbers_from}
use Rattle.wire_messages.proofs.message.Message.uint32s.Given as goal

abbrev pub invariant-fields : goal.invariant-fields
invariant-fields l =
    (numbers_from l.number l.found.items l.left ≡ uint32s_at l.number l.self)
    × (first_number_is_read (given l.number l.left) ≡ true → first_number_is_read (given l.number l.self) ≡ true)

abbrev pub decreases-fields : goal.decreases-fields
decreases-fields l = length l.left
