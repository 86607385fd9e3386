use Rattle.bm_expr.proofs.Agreement.{truth_is_whole}
use Rattle.bm_expr.proofs.laws.truth_is_whole.Goals as goal

pub returns : goal.returns
returns c = truth_is_whole
