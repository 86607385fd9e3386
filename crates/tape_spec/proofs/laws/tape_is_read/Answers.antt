use Rattle.tape_spec.proofs.Tapes.{tape_is_read}
use Rattle.tape_spec.proofs.laws.tape_is_read.Goals as goal

pub returns : goal.returns
returns c = tape_is_read
