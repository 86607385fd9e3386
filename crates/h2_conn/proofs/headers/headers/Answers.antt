use Rattle.std.proofs.Common.{sym}
use Rattle.h2_conn.proofs.HeaderSteps.{on_kept}
use Rattle.h2_conn.proofs.headers.headers.Goals as goal

pub returns-in-Some : goal.returns-in-Some
returns-in-Some c = rw (on_kept c.args.end_headers c.args.block c.args.conn.now _ c.in-Some.stream.now (sym c.in-Some.ensures) c.if-stream.false) c.take_fragment.ensures
