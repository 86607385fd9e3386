use Rattle.wire_messages.proofs.ReadBack.{found}
use Rattle.wire_messages.proofs.laws.rows_are_found.Goals as goal

pub returns : goal.returns
returns c = found
