use Rattle.lane_work.proofs.Turns.{joined_in_turn}
use Rattle.lane_work.proofs.laws.joined_in_turn.Goals as goal

pub returns : goal.returns
returns c = joined_in_turn
