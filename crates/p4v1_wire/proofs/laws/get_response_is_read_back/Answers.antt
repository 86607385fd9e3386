use Rattle.p4v1_wire.proofs.ResponseBack.{get_response_back}
use Rattle.p4v1_wire.proofs.laws.get_response_is_read_back.Goals as goal

pub returns : goal.returns
returns c = get_response_back
