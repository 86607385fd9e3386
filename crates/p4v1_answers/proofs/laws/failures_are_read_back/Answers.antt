use Rattle.p4v1_answers.proofs.ReadBack.{failures_are_read_back}
use Rattle.p4v1_answers.proofs.laws.failures_are_read_back.Goals as goal

pub returns : goal.returns
returns c = failures_are_read_back
