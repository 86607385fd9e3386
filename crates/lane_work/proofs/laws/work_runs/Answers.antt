use Rattle.lane_work.proofs.Works.{work_runs}
use Rattle.lane_work.proofs.laws.work_runs.Goals as goal

pub returns : goal.returns
returns c = work_runs
