use Rattle.p4v1_wire.proofs.EntityBack.{table_entry_back}
use Rattle.p4v1_wire.proofs.laws.table_entry_is_read_back.Goals as goal

pub returns : goal.returns
returns c = table_entry_back
