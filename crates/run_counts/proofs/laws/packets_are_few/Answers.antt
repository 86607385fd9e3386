use Rattle.run_counts.proofs.Few.{packets_are_few}
use Rattle.run_counts.proofs.laws.packets_are_few.Goals as goal

pub returns : goal.returns
returns c = record { law = packets_are_few }
