use Rattle.p4v1_wire.proofs.EntityBack.{entity_back}
use Rattle.p4v1_wire.proofs.laws.entity_is_read_back.Goals as goal

pub returns : goal.returns
returns c = entity_back
