use Rattle.run_lanes.proofs.Gathering.{lanes_make_a_run}
use Rattle.run_lanes.proofs.laws.lanes_make_a_run.Goals as goal

pub returns : goal.returns
returns c = lanes_make_a_run
