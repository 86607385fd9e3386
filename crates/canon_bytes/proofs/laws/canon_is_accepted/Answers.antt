use Rattle.canon_bytes.proofs.Canons.{canon_is_accepted}
use Rattle.canon_bytes.proofs.laws.canon_is_accepted.Goals as goal

pub returns : goal.returns
returns c = canon_is_accepted
