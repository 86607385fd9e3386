use Rattle.p4v1_wire.proofs.StreamBack.{packet_out_back}
use Rattle.p4v1_wire.proofs.laws.packet_out_is_read_back.Goals as goal

pub returns : goal.returns
returns c = packet_out_back
