use Rattle.plane_image.proofs.Taking.{at_most, not_false}
use Rattle.plane_image.proofs.image.Image.step.Goals as goal

pub arbitrate-requires-clause-accepted : goal.arbitrate-requires-clause-accepted
arbitrate-requires-clause-accepted c = not_false _ (rw c.in-Arbitrate.is at c.requires.taken)

pub save_step-requires-clause-slots : goal.save_step-requires-clause-slots
save_step-requires-clause-slots c = at_most _ _ (rw c.in-Save.is at c.requires.taken)

pub commit_step-requires-clause-slots : goal.commit_step-requires-clause-slots
commit_step-requires-clause-slots c = rw c.in-Commit.is at c.requires.taken
