use Rattle.plane_image.proofs.Taking.{at_most}
use Rattle.plane_image.proofs.image.Image.commit_step.Goals as goal

pub install-requires-clause-slots : goal.install-requires-clause-slots
install-requires-clause-slots c = at_most _ _ (rw c.in-Fresh.is at c.requires.slots)
