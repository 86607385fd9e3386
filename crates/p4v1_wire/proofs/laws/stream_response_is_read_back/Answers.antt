use Rattle.p4v1_wire.proofs.StreamBack.{stream_back}
use Rattle.p4v1_wire.proofs.laws.stream_response_is_read_back.Goals as goal

pub returns : goal.returns
returns c = stream_back
