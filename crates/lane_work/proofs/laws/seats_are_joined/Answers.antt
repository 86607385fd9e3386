use Rattle.lane_work.proofs.Totals.{seats_are_joined}
use Rattle.lane_work.proofs.laws.seats_are_joined.Goals as goal

pub returns : goal.returns
returns c = seats_are_joined
