use Rattle.run_counts.proofs.Words.{figures_add}
use Rattle.run_counts.proofs.laws.figures_add.Goals as goal

pub returns : goal.returns
returns c = record { law = figures_add }
