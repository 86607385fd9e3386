use Rattle.run_counts.proofs.Short.{controllers_packets_are_short}
use Rattle.run_counts.proofs.laws.controllers_packets_are_short.Goals as goal

pub returns : goal.returns
returns c = record { law = controllers_packets_are_short }
