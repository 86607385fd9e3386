use Rattle.digest_lists.proofs.Soundness.{stays_sound}
use Rattle.digest_lists.proofs.laws.stays_sound.Goals as goal

pub returns : goal.returns
returns c = stays_sound
