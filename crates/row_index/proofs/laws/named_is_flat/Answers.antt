use Rattle.row_index.proofs.Flat.{named_is_flat}
use Rattle.row_index.proofs.laws.named_is_flat.Goals as goal

pub returns : goal.returns
returns c = named_is_flat
