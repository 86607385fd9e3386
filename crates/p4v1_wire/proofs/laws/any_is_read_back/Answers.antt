use Rattle.p4v1_wire.proofs.StatusBack.{any_back}
use Rattle.p4v1_wire.proofs.laws.any_is_read_back.Goals as goal

pub returns : goal.returns
returns c = any_back
