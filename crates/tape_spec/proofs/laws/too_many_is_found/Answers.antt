use Rattle.tape_spec.proofs.Tapes.{too_many_is_found}
use Rattle.tape_spec.proofs.laws.too_many_is_found.Goals as goal

pub returns : goal.returns
returns c = too_many_is_found
