use Rattle.role_arbiter.proofs.Soundness.{told_in_order}
use Rattle.role_arbiter.proofs.laws.told_in_order.Goals as goal

pub returns : goal.returns
returns c = told_in_order
