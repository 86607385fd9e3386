use Rattle.bm_expr.proofs.Agreement.{value_is_lowest}
use Rattle.bm_expr.proofs.laws.value_is_lowest.Goals as goal

pub returns : goal.returns
returns c = value_is_lowest
