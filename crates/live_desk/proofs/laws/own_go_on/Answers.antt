use Rattle.live_desk.proofs.Asking.{own_go_on}
use Rattle.live_desk.proofs.laws.own_go_on.Goals as goal

pub returns : goal.returns
returns c = own_go_on
