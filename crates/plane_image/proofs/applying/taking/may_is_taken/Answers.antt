use Rattle.plane_image.proofs.Taking as law
use Rattle.plane_image.proofs.applying.taking.may_is_taken.Goals as goal

pub returns : goal.returns
returns c = law.may_is_taken
