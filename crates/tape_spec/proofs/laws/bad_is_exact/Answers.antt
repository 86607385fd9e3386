use Rattle.tape_spec.proofs.Tapes.{bad_is_exact}
use Rattle.tape_spec.proofs.laws.bad_is_exact.Goals as goal

pub returns : goal.returns
returns c = bad_is_exact
