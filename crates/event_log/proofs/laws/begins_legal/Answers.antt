use Rattle.event_log.proofs.Going.{begins_legal}
use Rattle.event_log.proofs.laws.begins_legal.Goals as goal

pub returns : goal.returns
returns g c = begins_legal g.M.Machine.applied g.M.Machine.may g.M.Machine.start
