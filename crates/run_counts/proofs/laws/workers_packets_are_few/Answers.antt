use Rattle.run_counts.proofs.Few.{workers_packets_are_few}
use Rattle.run_counts.proofs.laws.workers_packets_are_few.Goals as goal

pub returns : goal.returns
returns c = record { law = workers_packets_are_few }
