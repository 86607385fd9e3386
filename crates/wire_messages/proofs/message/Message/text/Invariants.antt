use denote.Shadow.{shadow}
use denote.Text.{Utf8}
use Rattle.std.proofs.Common.{◌≡◌, length}
use Rattle.wire_messages.specs.Message.{text_at}
use Rattle.wire_messages.specs.Scans.{text_of, last_from}
use Rattle.wire_messages.proofs.message.Message.text.Given as goal

abbrev pub invariant-fields : goal.invariant-fields
invariant-fields l = shadow (Utf8 l.value) × (last_from text_of l.number l.value l.left ≡ text_at l.number l.self)

abbrev pub decreases-fields : goal.decreases-fields
decreases-fields l = length l.left
