use Rattle.lane_work.proofs.Works.{work_stays}
use Rattle.lane_work.proofs.laws.work_stays.Goals as goal

pub returns : goal.returns
returns c = work_stays
