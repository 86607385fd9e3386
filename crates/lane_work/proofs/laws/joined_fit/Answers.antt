use Rattle.lane_work.proofs.Totals.{joined_fit}
use Rattle.lane_work.proofs.laws.joined_fit.Goals as goal

pub returns : goal.returns
returns c = joined_fit
