use Rattle.canon_bytes.proofs.Canons.{one_canonical}
use Rattle.canon_bytes.proofs.laws.one_canonical.Goals as goal

pub returns : goal.returns
returns c = one_canonical
