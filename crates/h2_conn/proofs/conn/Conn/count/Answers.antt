use Rattle.std.proofs.Common.{◌≡◌, length, take}
use Rattle.h2_conn.specs.declared.phase.Phase.TheVariants as phases
use Rattle.h2_conn.proofs.Turns.{quiet_none, quiet_front, quiet_ended}
use Rattle.h2_conn.proofs.conn.Conn.count.Goals as goal

pub returns-then-is_empty-clause-quiet : goal.returns-then-is_empty-clause-quiet
returns-then-is_empty-clause-quiet c = quiet_none c.args.self.now

pub returns-in-Open-clause-quiet : goal.returns-in-Open-clause-quiet
returns-in-Open-clause-quiet c =
    let is : c.args.self.now ≡ phases.Open c.in-Open.conn = cc in
    rw is (quiet_front c.in-Open.conn c.args.piece.now c.count_of.result c.count_of.ensures.within.0 c.count_of.ensures.within.1 c.count_of.ensures.turn)

pub returns-in-Broken-clause-quiet : goal.returns-in-Broken-clause-quiet
returns-in-Broken-clause-quiet c = quiet_ended c.args.self.now c.self.inside.phase (take (length c.args.piece.now) c.args.piece.now) c.in-Broken.is c.self.view_is

pub returns-in-Broken-2-clause-quiet : goal.returns-in-Broken-2-clause-quiet
returns-in-Broken-2-clause-quiet c = quiet_ended c.args.self.now c.self.inside.phase (take (length c.args.piece.now) c.args.piece.now) c.in-Broken.is c.self.view_is
