use Rattle.bm_expr.proofs.FittingLemmas.{fits_more}
use Rattle.bm_expr.proofs.laws.fits_more.Goals as goal

pub returns : goal.returns
returns c = fits_more
