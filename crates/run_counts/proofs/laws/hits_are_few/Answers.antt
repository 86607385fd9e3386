use Rattle.run_counts.proofs.Hits.{hits_are_few}
use Rattle.run_counts.proofs.laws.hits_are_few.Goals as goal

pub returns : goal.returns
returns c = record { law = hits_are_few }
