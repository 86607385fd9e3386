use Rattle.role_arbiter.proofs.WorkedRuns.{worked_run}
use Rattle.role_arbiter.proofs.laws.worked_run.Goals as goal

pub returns : goal.returns
returns c = worked_run
