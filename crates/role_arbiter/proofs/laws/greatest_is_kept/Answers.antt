use Rattle.role_arbiter.proofs.Greatest.{greatest_is_kept}
use Rattle.role_arbiter.proofs.laws.greatest_is_kept.Goals as goal

pub returns : goal.returns
returns c = greatest_is_kept
