use Rattle.std.proofs.Common.{◌≡◌, true, length}
use Rattle.wire_messages.specs.Answers.{first_is_read}
use Rattle.wire_messages.specs.Message.{given, texts_at}
use Rattle.wire_messages.specs.Scans.{text_of, all_from}
use Rattle.wire_messages.proofs.message.Message.texts.Given as goal

abbrev pub invariant-fields : goal.invariant-fields
invariant-fields l =
    (all_from text_of l.number l.found l.left ≡ texts_at l.number l.self)
    × (first_is_read text_of (given l.number l.left) ≡ true → first_is_read text_of (given l.number l.self) ≡ true)

abbrev pub decreases-fields : goal.decreases-fields
decreases-fields l = length l.left
