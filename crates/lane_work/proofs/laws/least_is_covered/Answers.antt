use Rattle.lane_work.proofs.Works.{least_is_covered}
use Rattle.lane_work.proofs.laws.least_is_covered.Goals as goal

pub returns : goal.returns
returns c = least_is_covered
