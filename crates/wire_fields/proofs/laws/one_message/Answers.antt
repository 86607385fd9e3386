use Rattle.wire_fields.proofs.LawProofs.{one_message}
use Rattle.wire_fields.proofs.laws.one_message.Goals as goal

pub returns : goal.returns
returns c = one_message
