use Rattle.p4v1_wire.proofs.StreamBack.{idle_timeout_back}
use Rattle.p4v1_wire.proofs.laws.idle_timeout_is_read_back.Goals as goal

pub returns : goal.returns
returns c = idle_timeout_back
