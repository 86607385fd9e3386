use Rattle.digest_lists.proofs.PassedOver.{passed_over}
use Rattle.digest_lists.proofs.laws.passed_over.Goals as goal

pub returns : goal.returns
returns c = passed_over
