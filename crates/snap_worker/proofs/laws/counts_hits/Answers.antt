use Rattle.snap_worker.proofs.Counted.{counts_hits}
use Rattle.snap_worker.proofs.laws.counts_hits.Goals as goal

pub returns : goal.returns
returns c = counts_hits
