use Rattle.std.proofs.Common.{◌≡◌, take}
use Rattle.std.specs.Prelude.{fold}
use Rattle.h2_conn.specs.Sends.{data_sent}
use Rattle.grpc_streams.specs.Messages.{framed}
use Rattle.grpc_streams.proofs.spelling.send_messages.Given as goal

abbrev pub invariant-loop-message : goal.invariant-loop-message
invariant-loop-message l = l.conn ≡ fold (λ before message. data_sent l.number (framed message) before) l.fn.conn (take l.message-index l.messages)
