use Rattle.std.proofs.Common.{◌-◌}
use Rattle.h2_conn.specs.Bytes.{run}
use Rattle.h2_conn.specs.declared.phase.Phase.TheVariants as phases
use Rattle.h2_conn.proofs.Turns.{AreRun}
use Rattle.h2_conn.proofs.pieces.advance.Given as goal

abbrev pub invariant-loop : goal.invariant-loop
invariant-loop l = AreRun (run (phases.Open l.fn.conn) l.piece) l.fn.events l.conn l.events l.rest (l.end - l.counter)
