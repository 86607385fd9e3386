use Rattle.p4rt_service.proofs.Cuts.{determined}
use Rattle.p4rt_service.proofs.laws.determined.Goals as goal

pub returns : goal.returns
returns c = determined
