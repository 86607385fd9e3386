use Rattle.std.proofs.Common.{◌∙◌}
use Rattle.grpc_streams.proofs.Begins.{completes}
use Rattle.grpc_streams.proofs.spelling.complete.Goals as goal

pub returns : goal.returns
returns c =
    completes c.send_headers.result c.args.number c.args.was_begun c.args.messages.now c.new-trailers.result c.as_slice.result.now c.args.conn.now c.begin.new.conn c.send_messages.new.conn c.send_headers.new.self
    c.in_ok-begin.ensures c.in_ok-send_messages.ensures c.new-trailers.ensures (c.as_slice.ensures ∙ c.in_ok-push_status.ensures) c.send_headers.ensures.ok
