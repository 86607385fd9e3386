use Rattle.lane_work.proofs.Works.{work_is_share}
use Rattle.lane_work.proofs.laws.work_is_share.Goals as goal

pub returns : goal.returns
returns c = work_is_share
