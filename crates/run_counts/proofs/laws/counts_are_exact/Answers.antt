use Rattle.run_counts.proofs.Words.{counts_are_exact}
use Rattle.run_counts.proofs.laws.counts_are_exact.Goals as goal

pub returns : goal.returns
returns c = record { law = counts_are_exact }
