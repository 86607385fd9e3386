use Rattle.table_store.proofs.LawProofs.{none_is_best}
use Rattle.table_store.proofs.laws.none_is_best.Goals as goal

pub returns : goal.returns
returns c = none_is_best
