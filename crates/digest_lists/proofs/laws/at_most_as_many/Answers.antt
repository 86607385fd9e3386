use Rattle.digest_lists.proofs.Few.{at_most_as_many}
use Rattle.digest_lists.proofs.laws.at_most_as_many.Goals as goal

pub returns : goal.returns
returns c = at_most_as_many
