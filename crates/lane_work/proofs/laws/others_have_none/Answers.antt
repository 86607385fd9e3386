use Rattle.lane_work.proofs.Names.{others_have_none}
use Rattle.lane_work.proofs.laws.others_have_none.Goals as goal

pub returns : goal.returns
returns c = others_have_none
