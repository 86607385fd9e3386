use Rattle.lane_table.proofs.Lasting.{other_lanes}
use Rattle.lane_table.proofs.laws.keeps_other_lanes.Goals as goal

pub returns : goal.returns
returns g c = other_lanes g.E.OfLane.lane
