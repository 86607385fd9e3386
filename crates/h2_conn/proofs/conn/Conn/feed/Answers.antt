use Rattle.h2_conn.proofs.Turns.{same_code}
use Rattle.h2_conn.proofs.conn.Conn.feed.Goals as goal

pub returns-in-Broken : goal.returns-in-Broken
returns-in-Broken c = same_code c.in-Broken.code c.in-Broken.output c.args.piece.now c.args.self.now c.self.inside.phase c.new.result c.in-Broken.ensures.value c.self.view_is c.new.ensures
