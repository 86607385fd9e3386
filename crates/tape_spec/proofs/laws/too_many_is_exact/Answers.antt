use Rattle.tape_spec.proofs.Tapes.{too_many_is_exact}
use Rattle.tape_spec.proofs.laws.too_many_is_exact.Goals as goal

pub returns : goal.returns
returns c = too_many_is_exact
