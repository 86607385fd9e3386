use Rattle.p4v1_wire.proofs.StreamBack.{arbitration_back}
use Rattle.p4v1_wire.proofs.laws.arbitration_is_read_back.Goals as goal

pub returns : goal.returns
returns c = arbitration_back
