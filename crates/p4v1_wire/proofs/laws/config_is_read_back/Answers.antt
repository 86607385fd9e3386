use Rattle.p4v1_wire.proofs.ResponseBack.{config_back}
use Rattle.p4v1_wire.proofs.laws.config_is_read_back.Goals as goal

pub returns : goal.returns
returns c = config_back
