use Rattle.role_arbiter.proofs.Soundness.{stays_sound}
use Rattle.role_arbiter.proofs.laws.stays_sound.Goals as goal

pub returns : goal.returns
returns c = stays_sound
