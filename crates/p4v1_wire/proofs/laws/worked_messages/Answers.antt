use Rattle.p4v1_wire.proofs.WorkedRows.{worked_messages}
use Rattle.p4v1_wire.proofs.laws.worked_messages.Goals as goal

pub returns : goal.returns
returns c = worked_messages
