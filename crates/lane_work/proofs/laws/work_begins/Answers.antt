use Rattle.lane_work.proofs.Works.{work_begins}
use Rattle.lane_work.proofs.laws.work_begins.Goals as goal

pub returns : goal.returns
returns c = work_begins
