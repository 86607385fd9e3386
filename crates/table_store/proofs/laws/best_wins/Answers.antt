use Rattle.table_store.proofs.LawProofs.{best_wins}
use Rattle.table_store.proofs.laws.best_wins.Goals as goal

pub returns : goal.returns
returns c = best_wins
