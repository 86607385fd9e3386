use Rattle.wire_messages.proofs.ReadBack.{row_by_row}
use Rattle.wire_messages.proofs.laws.row_by_row.Goals as goal

pub returns : goal.returns
returns c = row_by_row
