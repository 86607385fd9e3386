use Rattle.p4v1_wire.proofs.StreamBack.{packet_in_back}
use Rattle.p4v1_wire.proofs.laws.packet_in_is_read_back.Goals as goal

pub returns : goal.returns
returns c = packet_in_back
