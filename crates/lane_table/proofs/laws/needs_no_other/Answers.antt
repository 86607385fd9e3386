use Rattle.lane_table.proofs.Lasting.{no_other}
use Rattle.lane_table.proofs.laws.needs_no_other.Goals as goal

pub returns : goal.returns
returns g c = no_other g.E.OfLane.lane
