use Rattle.replay_run.proofs.Bounded.{reads_are_bounded}
use Rattle.replay_run.proofs.laws.reads_are_bounded.Goals as goal

pub returns : goal.returns
returns c = record { law = reads_are_bounded }
