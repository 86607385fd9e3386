use Rattle.p4rt_service.proofs.Cuts.{sent_before}
use Rattle.p4rt_service.proofs.laws.sent_before.Goals as goal

pub returns : goal.returns
returns c = sent_before
