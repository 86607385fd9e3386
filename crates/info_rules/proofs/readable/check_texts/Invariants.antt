use Rattle.std.proofs.Common.{length}
use Rattle.wire_messages.specs.Message.{texts_at}
use Rattle.info_rules.proofs.Texts.{Decides}
use Rattle.info_rules.proofs.readable.check_texts.Given as goal

abbrev pub invariant-messages : goal.invariant-messages
invariant-messages l = Decides l.left (texts_at l.number l.message)

abbrev pub decreases-messages : goal.decreases-messages
decreases-messages l = length l.left
