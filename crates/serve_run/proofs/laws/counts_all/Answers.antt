use Rattle.serve_run.proofs.Carrying.{counts_all}
use Rattle.serve_run.proofs.laws.counts_all.Goals as goal

pub returns : goal.returns
returns c = counts_all
