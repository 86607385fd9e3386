use Rattle.p4v1_read.proofs.PackedIds.{one_id_is_read}
use Rattle.p4v1_read.proofs.laws.one_id_is_read.Goals as goal

pub returns : goal.returns
returns c = one_id_is_read
