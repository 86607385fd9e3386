use Rattle.event_log.proofs.Going.{comes_after}
use Rattle.event_log.proofs.laws.comes_after.Goals as goal

pub returns : goal.returns
returns g c = comes_after g.M.Machine.applied g.M.Machine.start
