use Rattle.wire_fields.proofs.LawProofs.{rest_of_message}
use Rattle.wire_fields.proofs.laws.rest_of_message.Goals as goal

pub returns : goal.returns
returns c = rest_of_message
