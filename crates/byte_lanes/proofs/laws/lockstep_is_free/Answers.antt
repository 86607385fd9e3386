use Rattle.byte_lanes.proofs.Reports.{lockstep_is_free}
use Rattle.byte_lanes.proofs.laws.lockstep_is_free.Goals as goal

pub returns : goal.returns
returns c = lockstep_is_free
