use Rattle.p4rt_service.proofs.Lanes.{lane_stays}
use Rattle.p4rt_service.proofs.laws.lane_stays.Goals as goal

pub returns : goal.returns
returns c = lane_stays
