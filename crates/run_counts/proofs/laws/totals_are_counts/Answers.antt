use Rattle.run_counts.proofs.Lines.{totals_are_counts}
use Rattle.run_counts.proofs.laws.totals_are_counts.Goals as goal

pub returns : goal.returns
returns c = record { law = totals_are_counts }
