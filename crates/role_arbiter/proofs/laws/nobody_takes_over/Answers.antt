use Rattle.role_arbiter.proofs.Primaries.{nobody_takes_over}
use Rattle.role_arbiter.proofs.laws.nobody_takes_over.Goals as goal

pub returns : goal.returns
returns c = nobody_takes_over
