use Rattle.lane_work.proofs.Fitting.{fits_go_on}
use Rattle.lane_work.proofs.laws.fits_go_on.Goals as goal

pub returns : goal.returns
returns c = fits_go_on
