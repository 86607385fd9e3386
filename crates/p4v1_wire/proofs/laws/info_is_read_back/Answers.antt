use Rattle.p4v1_wire.proofs.InfoBack.{info_back}
use Rattle.p4v1_wire.proofs.laws.info_is_read_back.Goals as goal

pub returns : goal.returns
returns c = info_back
