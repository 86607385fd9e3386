use Rattle.run_counts.proofs.Hits.{runs_are_within}
use Rattle.run_counts.proofs.laws.runs_are_within.Goals as goal

pub returns : goal.returns
returns c = record { law = runs_are_within }
