use Rattle.p4v1_wire.proofs.StreamBack.{digest_ack_back}
use Rattle.p4v1_wire.proofs.laws.digest_ack_is_read_back.Goals as goal

pub returns : goal.returns
returns c = digest_ack_back
