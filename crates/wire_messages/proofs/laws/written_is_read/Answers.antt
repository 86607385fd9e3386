use Rattle.wire_messages.proofs.ReadBack.{written_is_read}
use Rattle.wire_messages.proofs.laws.written_is_read.Goals as goal

pub returns : goal.returns
returns c = written_is_read
