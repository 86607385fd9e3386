use Rattle.digest_lists.proofs.EachOnce.{list_sizes}
use Rattle.digest_lists.proofs.laws.list_sizes.Goals as goal

pub returns : goal.returns
returns c = list_sizes
