use Rattle.std.proofs.Common.{arith}
use Rattle.h2_conn.proofs.HeaderSteps.{whole_block}
use Rattle.h2_conn.proofs.headers.take_fragment.Goals as goal

pub returns-then-end_headers : goal.returns-then-end_headers
returns-then-end_headers c = rw (whole_block c.args.end_headers c.args.block c.args.conn.now (omega arith) c.if-end_headers.true) c.take_block.ensures
