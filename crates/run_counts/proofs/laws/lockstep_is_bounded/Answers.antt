use Rattle.run_counts.proofs.Bounded.{lockstep_is_bounded}
use Rattle.run_counts.proofs.laws.lockstep_is_bounded.Goals as goal

pub returns : goal.returns
returns c = record { law = lockstep_is_bounded }
