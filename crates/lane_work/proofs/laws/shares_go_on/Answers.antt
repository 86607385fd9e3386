use Rattle.lane_work.proofs.Fitting.{shares_go_on}
use Rattle.lane_work.proofs.laws.shares_go_on.Goals as goal

pub returns : goal.returns
returns c = shares_go_on
