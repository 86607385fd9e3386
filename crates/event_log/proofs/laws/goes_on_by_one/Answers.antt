use Rattle.event_log.proofs.Going.{goes_on_by_one}
use Rattle.event_log.proofs.laws.goes_on_by_one.Goals as goal

pub returns : goal.returns
returns g c = goes_on_by_one g.M.Machine.applied g.M.Machine.may g.M.Machine.start
