use Rattle.run_counts.proofs.Few.{calls_are_few}
use Rattle.run_counts.proofs.laws.calls_are_few.Goals as goal

pub returns : goal.returns
returns c = record { law = calls_are_few }
