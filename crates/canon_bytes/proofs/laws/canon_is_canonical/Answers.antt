use Rattle.canon_bytes.proofs.Canons.{canon_is_canonical}
use Rattle.canon_bytes.proofs.laws.canon_is_canonical.Goals as goal

pub returns : goal.returns
returns c = canon_is_canonical
