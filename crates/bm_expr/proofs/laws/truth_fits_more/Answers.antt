use Rattle.bm_expr.proofs.FittingLemmas.{truth_fits_more}
use Rattle.bm_expr.proofs.laws.truth_fits_more.Goals as goal

pub returns : goal.returns
returns c = truth_fits_more
