use Rattle.lane_work.proofs.Totals.{joined_are_counted}
use Rattle.lane_work.proofs.laws.joined_are_counted.Goals as goal

pub returns : goal.returns
returns c = joined_are_counted
