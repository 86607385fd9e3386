use Rattle.table_store.proofs.LawProofs.{one_beats}
use Rattle.table_store.proofs.laws.one_beats.Goals as goal

pub returns : goal.returns
returns c = one_beats
