use Rattle.row_index.proofs.Flat.{best_is_flat}
use Rattle.row_index.proofs.laws.best_is_flat.Goals as goal

pub returns : goal.returns
returns c = best_is_flat
