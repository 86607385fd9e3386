use Rattle.p4v1_wire.proofs.ResponseBack.{read_response_back}
use Rattle.p4v1_wire.proofs.laws.read_response_is_read_back.Goals as goal

pub returns : goal.returns
returns c = read_response_back
