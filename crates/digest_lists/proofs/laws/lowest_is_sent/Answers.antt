use Rattle.digest_lists.proofs.Soundness.{lowest_is_sent}
use Rattle.digest_lists.proofs.laws.lowest_is_sent.Goals as goal

pub returns : goal.returns
returns c = lowest_is_sent
