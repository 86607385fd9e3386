use Rattle.p4v1_wire.proofs.StatusBack.{status_back}
use Rattle.p4v1_wire.proofs.laws.status_is_read_back.Goals as goal

pub returns : goal.returns
returns c = status_back
