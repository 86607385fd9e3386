use Rattle.p4rt_service.proofs.Cuts.{any_cut}
use Rattle.p4rt_service.proofs.laws.any_cut.Goals as goal

pub returns : goal.returns
returns c = any_cut
