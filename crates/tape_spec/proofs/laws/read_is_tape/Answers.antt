use Rattle.tape_spec.proofs.Tapes.{read_is_tape}
use Rattle.tape_spec.proofs.laws.read_is_tape.Goals as goal

pub returns : goal.returns
returns c = read_is_tape
