use Rattle.p4v1_wire.proofs.StatusBack.{error_back}
use Rattle.p4v1_wire.proofs.laws.error_is_read_back.Goals as goal

pub returns : goal.returns
returns c = error_back
