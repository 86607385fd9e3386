use Rattle.wire_messages.specs.Message.{each, bytes_of, given, messages_at}
use Rattle.p4v1_read.specs.Nested.{read, all_at}
use Rattle.p4v1_read.proofs.Gathered.{gather_none}
use Rattle.p4v1_answers.proofs.reading.all.Goals as goal

pub messages-init : goal.messages-init
unfolding all_at messages_at
messages-init g c = rw (c.messages-left.ensures, c.new-list.ensures) (gather_none (read g.T.Readable.meaning) (each bytes_of (given c.args.number c.args.message.now)))
