use Rattle.event_log.proofs.Going.{goes_on}
use Rattle.event_log.proofs.laws.goes_on.Goals as goal

pub returns : goal.returns
returns g c = goes_on g.M.Machine.applied g.M.Machine.may g.M.Machine.start
