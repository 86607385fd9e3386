use Rattle.wire_messages.proofs.CanWrite.{rows_can_be_written}
use Rattle.wire_messages.proofs.laws.rows_can_be_written.Goals as goal

pub returns : goal.returns
returns c = rows_can_be_written
