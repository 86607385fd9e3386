use Rattle.table_store.proofs.LawProofs.{names_tell}
use Rattle.table_store.proofs.laws.names_tell.Goals as goal

pub returns : goal.returns
returns c = names_tell
