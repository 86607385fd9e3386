use Rattle.live_desk.proofs.Asking.{runs_behind}
use Rattle.live_desk.proofs.laws.runs_behind_its_call.Goals as goal

pub returns : goal.returns
returns c = runs_behind
