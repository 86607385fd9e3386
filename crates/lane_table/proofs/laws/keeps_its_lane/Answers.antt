use Rattle.lane_table.proofs.Lasting.{its_lane}
use Rattle.lane_table.proofs.laws.keeps_its_lane.Goals as goal

pub returns : goal.returns
returns g c = its_lane g.E.OfLane.lane
