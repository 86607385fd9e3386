use Rattle.role_arbiter.proofs.Primaries.{one_primary}
use Rattle.role_arbiter.proofs.laws.one_primary.Goals as goal

pub returns : goal.returns
returns c = one_primary
