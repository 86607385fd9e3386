use Rattle.bm_expr.proofs.Agreement.{settled_is_whole}
use Rattle.bm_expr.proofs.laws.settled_is_whole.Goals as goal

pub returns : goal.returns
returns c = settled_is_whole
