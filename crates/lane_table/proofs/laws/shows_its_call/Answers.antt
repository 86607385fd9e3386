use Rattle.lane_table.proofs.Lasting.{shows_its}
use Rattle.lane_table.proofs.laws.shows_its_call.Goals as goal

pub returns : goal.returns
returns g c = shows_its g.E.OfLane.lane
