use Rattle.run_counts.proofs.Short.{workers_packets_are_short}
use Rattle.run_counts.proofs.laws.workers_packets_are_short.Goals as goal

pub returns : goal.returns
returns c = record { law = workers_packets_are_short }
