use Rattle.run_counts.proofs.Short.{packets_are_short}
use Rattle.run_counts.proofs.laws.packets_are_short.Goals as goal

pub returns : goal.returns
returns c = record { law = packets_are_short }
