use Rattle.hpack_tables.proofs.UpdateBack.{update_back}
use Rattle.hpack_tables.proofs.laws.update_back.Goals as goal

pub returns : goal.returns
returns c = update_back
