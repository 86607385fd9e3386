use Rattle.p4v1_wire.proofs.ResponseBack.{capabilities_response_back}
use Rattle.p4v1_wire.proofs.laws.capabilities_response_is_read_back.Goals as goal

pub returns : goal.returns
returns c = capabilities_response_back
