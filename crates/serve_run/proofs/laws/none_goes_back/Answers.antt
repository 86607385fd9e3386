use Rattle.serve_run.proofs.Carrying.{none_goes_back}
use Rattle.serve_run.proofs.laws.none_goes_back.Goals as goal

pub returns : goal.returns
returns c = none_goes_back
