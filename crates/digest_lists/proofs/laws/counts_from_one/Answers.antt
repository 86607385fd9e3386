use Rattle.digest_lists.proofs.Counting.{counts_from_one}
use Rattle.digest_lists.proofs.laws.counts_from_one.Goals as goal

pub returns : goal.returns
returns c = counts_from_one
