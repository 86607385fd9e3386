use Rattle.lane_work.proofs.Names.{each_has_its_own}
use Rattle.lane_work.proofs.laws.each_has_its_own.Goals as goal

pub returns : goal.returns
returns c = each_has_its_own
