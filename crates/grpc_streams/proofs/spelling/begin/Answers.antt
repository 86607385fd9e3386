use Rattle.std.proofs.Common.{◌∙◌}
use Rattle.grpc_streams.proofs.Begins.{begins}
use Rattle.grpc_streams.proofs.spelling.begin.Goals as goal

pub returns : goal.returns
returns c = begins c.send_headers.result c.args.number c.args.was_begun c.as_slice.result.now c.args.conn.now c.send_headers.new.self c.if-was_begun.false (c.as_slice.ensures ∙ c.in_ok-headers.ensures) c.send_headers.ensures.ok
