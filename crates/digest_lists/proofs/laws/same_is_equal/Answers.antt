use Rattle.digest_lists.proofs.SameData.{same_is_equal}
use Rattle.digest_lists.proofs.laws.same_is_equal.Goals as goal

pub returns : goal.returns
returns c = same_is_equal
