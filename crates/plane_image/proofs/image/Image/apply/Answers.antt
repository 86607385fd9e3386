use Rattle.plane_image.proofs.Taking.{may_is_taken}
use Rattle.plane_image.proofs.image.Image.apply.Goals as goal

pub step-requires-clause-taken : goal.step-requires-clause-taken
step-requires-clause-taken c = may_is_taken _ _ c.requires.may
