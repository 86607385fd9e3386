use Rattle.run_counts.proofs.Few.{controllers_packets_are_few}
use Rattle.run_counts.proofs.laws.controllers_packets_are_few.Goals as goal

pub returns : goal.returns
returns c = record { law = controllers_packets_are_few }
