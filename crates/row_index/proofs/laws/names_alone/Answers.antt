use Rattle.row_index.proofs.Indexing.{names_alone}
use Rattle.row_index.proofs.laws.names_alone.Goals as goal

pub returns : goal.returns
returns c = names_alone
